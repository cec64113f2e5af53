-- what is read of a text, and without a text is nothing
use Rattle.std.proofs.Common.{◌≡◌, refl, ap, ℕ, ℤ, List, ◌⊎◌, inl, inr, Option, None, Some}
use Rattle.clap.specs.Walk.{Text}
use Rattle.sidb_units.specs.declared.decimal_fault.DecFault.{DecFault}
use Rattle.sidb_units.specs.Decimal.{HasDecimalFault, IsReadAs}
use Rattle.command_words.specs.Options.{IsReadWhereGiven}
use Rattle.command_words.proofs.Decided.{HasSomeOrNone}

-- a text is read as one number
abbrev pub IsReadOnce : Type 0
IsReadOnce = (text : List ℕ) (places : ℕ) (least greatest v w : ℤ) → IsReadAs text places least greatest v → IsReadAs text places least greatest w → v ≡ w

-- a text is read as a number, or has a fault, and not both
pub record AreReadings : Type 0 where
  pub some : (text : List ℕ) (places : ℕ) (least greatest : ℤ) → ((v : ℤ) × IsReadAs text places least greatest v) ⊎ ((e : DecFault) × HasDecimalFault text places least greatest e)
  pub no_fault : (text : List ℕ) (places : ℕ) (least greatest v : ℤ) (e : DecFault) → IsReadAs text places least greatest v → HasDecimalFault text places least greatest e → ⊥

-- what is read is one, where a text is one
pub one_read : {A : Type 0} (IsIt : Text → A → Type 0) → ((text : Text) (a b : A) → IsIt text a → IsIt text b → a ≡ b) → (told : Option Text) (a b : Option A) → IsReadWhereGiven IsIt told a → IsReadWhereGiven IsIt told b → a ≡ b
one_read IsIt one None None None is also = refl
one_read IsIt one (Some text) (Some a) (Some b) is also = ap Some (one text a b is also)
one_read IsIt one None (Some a) b is also = absurd is
one_read IsIt one None None (Some b) is also = absurd also
one_read IsIt one (Some text) None b is also = absurd is
one_read IsIt one (Some text) (Some a) None is also = absurd also

-- something is read or not, where each text is something or nothing
pub some_read : {A : Type 0} (IsIt : Text → A → Type 0) → ((text : Text) → HasSomeOrNone (IsIt text)) → (told : Option Text) → HasSomeOrNone (IsReadWhereGiven IsIt told)
some_read IsIt some None = inl (None, tt)
some_read {A} IsIt some (Some text) = by (some text)
  where
    by : HasSomeOrNone (IsIt text) → HasSomeOrNone (IsReadWhereGiven IsIt (Some text))
    by (inl (a, is)) = inl (Some a, is)
    by (inr never) = inr none
      where
        none : (a : Option A) → IsReadWhereGiven IsIt (Some text) a → ⊥
        none None is = is
        none (Some a) is = never a is
