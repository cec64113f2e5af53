-- an option has a meaning, or has none, and its numbers are in range
use Rattle.std.proofs.Common.{◌≡◌, sym, refl, ap, subst, ℕ, ℤ, pos, ◌≤◌, ◌≤ℤ◌, List, ◌⊎◌, inl, inr, Option, None, Some, true, false, codes, arith}
use Rattle.sidb_units.specs.declared.decimal_fault.DecFault.{DecFault}
use Rattle.sidb_units.specs.Decimal.{HasDecimalFault, IsReadAs, decimal_value as value_read}
use Rattle.model_params.specs.declared.quantity.Quantity.{Quantity}
use Rattle.model_params.specs.Quantities.{IsInRangeOf}
use Rattle.command_words.specs.Options.{IsBase, IsGiven, IsOptionNumber}
use Rattle.command_words.proofs.Readings.{AreReadings}
use Rattle.command_words.proofs.Decided.{HasSomeOrNone, moved, text_decided}

-- the base that a text is, or none
pub some_base : (told : Option (List ℕ)) → HasSomeOrNone (IsBase told)
some_base None = inl (3, refl)
some_base (Some text) = by (text_decided text (codes "2")) (text_decided text (codes "3"))
  where
    by : (text ≡ codes "2") ⊎ (text ≡ codes "2" → ⊥) → (text ≡ codes "3") ⊎ (text ≡ codes "3" → ⊥) → HasSomeOrNone (IsBase (Some text))
    by (inl is) other = inl (2, inl (is, refl))
    by (inr never) (inl is) = inl (3, inr (is, refl))
    by (inr never) (inr neither) = inr none
      where
        none : (base : ℕ) → IsBase (Some text) base → ⊥
        none base (inl is) = never is.0
        none base (inr is) = neither is.0

-- whether a flag is given
pub some_flag : (told : Option (List ℕ)) → HasSomeOrNone (IsGiven told)
some_flag None = inl (false, ((λ e. cc), (λ e. cc)))
some_flag (Some text) = by (text_decided text (codes "true"))
  where
    by : (text ≡ codes "true") ⊎ (text ≡ codes "true" → ⊥) → HasSomeOrNone (IsGiven (Some text))
    by (inl is) = inl (true, ((λ _. ap Some is), (λ _. refl)))
    by (inr never) = inl (false, ((λ e. cc), (λ e. let same : text ≡ codes "true" = cc in absurd (never same))))

module _ (readings : AreReadings) (q : Quantity) where
  -- the number that an option gives, or none
  pub some_number : (told : Option (List ℕ)) → HasSomeOrNone (IsOptionNumber q told)
  some_number None = inl (q.preset, refl)
  some_number (Some text) = by (readings.some text q.places q.least q.greatest)
    where
      by : ((v : ℤ) × IsReadAs text q.places q.least q.greatest v) ⊎ ((e : DecFault) × HasDecimalFault text q.places q.least q.greatest e) → HasSomeOrNone (IsOptionNumber q (Some text))
      by (inl read) = inl read
      by (inr (e, fault)) = inr (λ v read. readings.no_fault text q.places q.least q.greatest v e read fault)

  -- the same for a number that is counted
  pub some_count : (preset : ℕ) → q.preset ≡ pos preset → (told : Option (List ℕ)) → HasSomeOrNone (λ n. IsOptionNumber q told (pos n))
  some_count preset is None = inl (preset, sym is)
  some_count preset is (Some text) =
      moved (IsOptionNumber q (Some text)) (λ n. IsOptionNumber q (Some text) (pos n))
      (λ v read. (value_read text read.digits q.places, subst (IsReadAs text q.places q.least q.greatest) read.value read))
      (λ n read. (pos n, read)) (some_number (Some text))

-- a number of an option is in the range of its quantity
pub number_within : (q : Quantity) (told : Option (List ℕ)) (v : ℤ) → q.least ≤ℤ q.preset → q.preset ≤ℤ q.greatest → IsOptionNumber q told v → IsInRangeOf q v
number_within q None v from to is = record { from = rw is from; to = rw is to }
number_within q (Some text) v from to read = record { from = read.from; to = read.to }

-- the base is from 2 to 3
pub base_within : (told : Option (List ℕ)) (base : ℕ) → IsBase told base → (2 ≤ base) × (base ≤ 3)
base_within None base is = (omega (arith, is), omega (arith, is))
base_within (Some text) base (inl is) = let two = is.1 in (omega (arith, two), omega (arith, two))
base_within (Some text) base (inr is) = let three = is.1 in (omega (arith, three), omega (arith, three))
