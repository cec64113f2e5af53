-- whether two answers are the same, and whether some level of a run has a property, is decided
use Rattle.std.proofs.Common.{◌≡◌, ◌≢◌, ℕ, zero, suc, List, [], ◌∷◌, length, ℤ, pos, ◌+ℤ◌, ◌≤ℤ◌, ◌<ℤ◌, refl, sym, ap, subst, ◌∙◌, arith, Bool, true, false, ◌⊎◌, inl, inr}
use Rattle.std.proofs.lemmas.Int.{ints, by_lt_z}
use Rattle.std.proofs.lemmas.Bool.{cases_eq, false≢true}
use Rattle.charge_model.specs.declared.charge.Charge.{Charge}
use Rattle.charge_model.specs.Charges.{IsBefore}
use Rattle.charge_model.proofs.Order.{IsBefore-irrefl, order_cases}
use Rattle.certain_energy_laws.proofs.Decisions.{Decided}
use Rattle.level_range_laws.specs.Answers.{Outcome}

lists_decided : (c d : List Charge) → Decided (c ≡ d)
lists_decided c d = by (cases_eq (length d) (length c))
  where
    ordered : (d ≡ c) ⊎ (IsBefore d c ⊎ IsBefore c d) → Decided (c ≡ d)
    ordered (inl e) = inl (sym e)
    ordered (inr (inl before)) = inr (λ e. IsBefore-irrefl d (subst (IsBefore d) e before))
    ordered (inr (inr before)) = inr (λ e. IsBefore-irrefl c (subst (IsBefore c) (sym e) before))

    by : (length d ≡ length c) ⊎ (length d ≢ length c) → Decided (c ≡ d)
    by (inl same) = ordered (order_cases c d same)
    by (inr differ) = inr (λ e. differ (ap length (sym e)))

bits_decided : (a b : Bool) → Decided (a ≡ b)
bits_decided true true = inl refl
bits_decided false false = inl refl
bits_decided true false = inr (λ e. false≢true (sym e))
bits_decided false true = inr (λ e. false≢true e)

abbrev made : List Charge → Bool → Outcome
made c b = record { charges = c; certain = b }

outcomes_decided : (x y : Outcome) → Decided (x ≡ y)
outcomes_decided x y = by (lists_decided x.charges y.charges) (bits_decided x.certain y.certain)
  where
    by : Decided (x.charges ≡ y.charges) → Decided (x.certain ≡ y.certain) → Decided (x ≡ y)
    by (inl e) (inl f) = inl (ap (λ z. made z x.certain) e ∙ ap (made y.charges) f)
    by (inr never) f = inr (λ e. never (ap (λ z. z.charges) e))
    by (inl e) (inr never) = inr (λ f. never (ap (λ z. z.certain) f))

pub answers_decided : (a b : List Outcome) → Decided (a ≡ b)
answers_decided [] [] = inl refl
answers_decided [] (y ∷ ys) = inr (λ e. absurd (cc))
answers_decided (x ∷ xs) [] = inr (λ e. absurd (cc))
answers_decided (x ∷ xs) (y ∷ ys) = by (outcomes_decided x y) (answers_decided xs ys)
  where
    by : Decided (x ≡ y) → Decided (xs ≡ ys) → Decided (x ∷ xs ≡ y ∷ ys)
    by (inl e) (inl f) = inl (cc)
    by (inr never) f = inr (λ e. never (cc))
    by (inl e) (inr never) = inr (λ f. never (cc))

-- a level of a run of n levels has a property
pub record IsAmong (first : ℤ) (n : ℕ) (P : ℤ → Type 0) : Type 0 where
  pub level : ℤ
  pub from : first ≤ℤ level
  pub to : level <ℤ (first +ℤ pos n)
  pub holds : P level

pub among_decided : (first : ℤ) (n : ℕ) (P : ℤ → Type 0) → ((m : ℤ) → Decided (P m)) → Decided (IsAmong first n P)
among_decided first zero P each = inr (λ h. let from = h.from in let to = h.to in omega (arith, ints, from, to))
among_decided first (suc n) P each = by (among_decided first n P each) (each (first +ℤ pos n))
  where
    later : Decided (P (first +ℤ pos n)) → (IsAmong first n P → ⊥) → Decided (IsAmong first (suc n) P)
    later (inl here) never = inl (record { level = first +ℤ pos n; from = omega (arith, ints); to = omega (arith, ints); holds = here })
    later (inr not) never = inr (λ h. let from = h.from in let to = h.to in by_lt_z h.level (first +ℤ pos n)
        (λ less. never (record { level = h.level; from = from; to = less; holds = h.holds }))
        (λ more. not (subst P (omega (arith, ints, to, more)) h.holds)))

    by : Decided (IsAmong first n P) → Decided (P (first +ℤ pos n)) → Decided (IsAmong first (suc n) P)
    by (inl found) last = inl (record { level = found.level; from = found.from; to = let to = found.to in omega (arith, ints, to); holds = found.holds })
    by (inr never) last = later last never
