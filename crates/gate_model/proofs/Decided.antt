-- what has some value, or has none
use Rattle.std.proofs.Common.{◌≡◌, refl, subst, ℕ, ℤ, pos, ◌<◌, ◌≤◌, List, [], ◌∷◌, ◌⊎◌, inl, inr, arith}
use Rattle.std.proofs.lemmas.Bool.{cases_eq, cases_lt}
use Rattle.sidb_units.specs.declared.decimal_fault.DecFault.{DecFault}
use Rattle.sidb_units.specs.Decimal.{HasDecimalFault, IsReadAs, decimal_value as value_read}

-- some value has P, or no value has it
abbrev pub HasSomeOrNone : {A : Type 0} → (A → Type 0) → Type 0
HasSomeOrNone {A} P = ((a : A) × P a) ⊎ ((a : A) → P a → ⊥)

-- a fact holds, or does not
abbrev pub IsDecided : Type 0 → Type 0
IsDecided P = P ⊎ (P → ⊥)

-- two facts that are decided
pub both_decided : {P Q : Type 0} → IsDecided P → IsDecided Q → IsDecided (P × Q)
both_decided (inl p) (inl q) = inl (p, q)
both_decided (inr never) second = inr (λ h. never h.0)
both_decided (inl first) (inr never) = inr (λ h. never h.1)

-- whether a number is at most another
pub at_most_decided : (m n : ℕ) → IsDecided (m ≤ n)
at_most_decided m n = by (cases_lt n m)
  where
    by : (n < m) ⊎ (m ≤ n) → IsDecided (m ≤ n)
    by (inl more) = inr (λ few. omega (arith, more, few))
    by (inr few) = inl few

-- whether two texts are the same
pub text_decided : (s t : List ℕ) → IsDecided (s ≡ t)
text_decided [] [] = inl refl
text_decided [] (b ∷ t) = inr (λ e. cc)
text_decided (a ∷ s) [] = inr (λ e. cc)
text_decided (a ∷ s) (b ∷ t) = by (cases_eq a b) (text_decided s t)
  where
    by : IsDecided (a ≡ b) → IsDecided (s ≡ t) → IsDecided (a ∷ s ≡ b ∷ t)
    by (inl first) (inl rest) = inl (cc)
    by (inr never) rest = inr (λ e. let first : a ≡ b = cc in never first)
    by (inl first) (inr never) = inr (λ e. let rest : s ≡ t = cc in never rest)

-- a text is read as a number, or has a fault, and not both
pub record AreReadings : Type 0 where
  pub some : (text : List ℕ) (places : ℕ) (least greatest : ℤ) → ((v : ℤ) × IsReadAs text places least greatest v) ⊎ ((e : DecFault) × HasDecimalFault text places least greatest e)
  pub no_fault : (text : List ℕ) (places : ℕ) (least greatest v : ℤ) (e : DecFault) → IsReadAs text places least greatest v → HasDecimalFault text places least greatest e → ⊥

-- the number of a text is counted
pub as_count : (text : List ℕ) (places : ℕ) (least greatest v : ℤ) → IsReadAs text places least greatest v → (n : ℕ) × IsReadAs text places least greatest (pos n)
as_count text places least greatest v read = (value_read text read.digits places, subst (IsReadAs text places least greatest) read.value read)

-- a text is some number that is counted, or is none
pub some_count : AreReadings → (text : List ℕ) (places : ℕ) (least greatest : ℤ) → HasSomeOrNone (λ n. IsReadAs text places least greatest (pos n))
some_count readings text places least greatest = by (readings.some text places least greatest)
  where
    by : ((v : ℤ) × IsReadAs text places least greatest v) ⊎ ((e : DecFault) × HasDecimalFault text places least greatest e) → HasSomeOrNone (λ n. IsReadAs text places least greatest (pos n))
    by (inl (v, read)) = inl (as_count text places least greatest v read)
    by (inr (e, fault)) = inr (λ n read. readings.no_fault text places least greatest (pos n) e read fault)
