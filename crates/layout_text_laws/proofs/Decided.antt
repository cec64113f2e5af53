-- what holds or does not hold
use Rattle.std.proofs.Common.{ℕ, ◌<◌, ◌≤◌, arith, List, [], ◌∷◌, ◌⊎◌, inl, inr}
use Rattle.std.specs.Prelude.{All}
use Rattle.std.proofs.lemmas.Bool.{cases_lt}
use Rattle.std.proofs.lemmas.List.Elements.{All-nil, All-cons, All-head, All-tail}

-- it holds, or it does not
abbrev pub Decided : Type 0 → Type 0
Decided P = P ⊎ (P → ⊥)

-- where one holds exactly if the other does
pub decided_by : (P Q : Type 0) → (P → Q) → (Q → P) → Decided P → Decided Q
decided_by P Q to back (inl p) = inl (to p)
decided_by P Q to back (inr never) = inr (λ q. never (back q))

pub both_decided : (P Q : Type 0) → Decided P → Decided Q → Decided (P × Q)
both_decided P Q (inl p) (inl q) = inl (p, q)
both_decided P Q (inr never) q = inr (λ h. never h.0)
both_decided P Q (inl p) (inr never) = inr (λ h. never h.1)

pub le_decided : (m n : ℕ) → Decided (m ≤ n)
le_decided m n = by (cases_lt n m)
  where
    by : (n < m) ⊎ (m ≤ n) → Decided (m ≤ n)
    by (inl less) = inr (λ h. omega (arith, less, h))
    by (inr le) = inl le

-- of each element of a list
pub all_decided : {X : Type 0} (P : X → Type 0) → ((x : X) → Decided (P x)) → (xs : List X) → Decided (All P xs)
all_decided P each [] = inl (All-nil P)
all_decided P each (x ∷ xs) = by (each x) (all_decided P each xs)
  where
    by : Decided (P x) → Decided (All P xs) → Decided (All P (x ∷ xs))
    by (inl here) (inl rest) = inl (All-cons P x xs here rest)
    by (inr never) rest = inr (λ all. never (All-head P x xs all))
    by (inl here) (inr never) = inr (λ all. never (All-tail P x xs all))
