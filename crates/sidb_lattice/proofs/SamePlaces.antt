-- two lists of classes are equal where each pair, or each site with each fixed charge, has equal ones
use Rattle.std.proofs.Common.{◌≡◌, ℕ, zero, suc, ◌+◌, ◌-◌, ◌*◌, ◌<◌, ◌≤◌, ◌⊎◌, inl, inr, List, length, slice_index, arith, sym, subst, ◌∙◌}
use Rattle.std.proofs.lemmas.Bool.{cases_lt}
use Rattle.std.proofs.lemmas.List.{ext_get_or}
use Rattle.charge_model.specs.Problem.{pairs_before}

-- each place below all pairs is that of a pair
abbrev IsPlaceOfPair : ℕ → ℕ → Type 0
IsPlaceOfPair n k = (i : ℕ) × (j : ℕ) × (i < j) × (j < n) × (pairs_before n i + (j - suc i) ≡ k)

pair_in_row : (n k m : ℕ) → suc m ≤ n → k < pairs_before n (suc m) → (k < pairs_before n m) ⊎ (pairs_before n m ≤ k) → (k < pairs_before n m → IsPlaceOfPair n k) → IsPlaceOfPair n k
pair_in_row n k m h g (inl less) before = before less
pair_in_row n k m h g (inr more) before = (m, suc m + (k - pairs_before n m), omega arith, omega (arith, g, more), omega (arith, more))

pair_at : (n k m : ℕ) → m ≤ n → k < pairs_before n m → IsPlaceOfPair n k
pair_at n k zero h g = absurd (omega (arith, g))
pair_at n k (suc m) h g = pair_in_row n k m h g (cases_lt k (pairs_before n m)) (λ less. pair_at n k m (omega (arith, h)) less)

pub same_pairs : (n : ℕ) (xs ys : List ℕ) → length xs ≡ pairs_before n n → length ys ≡ pairs_before n n
    → ((i j : ℕ) → i < j → j < n → slice_index xs (pairs_before n i + (j - suc i)) ≡ slice_index ys (pairs_before n i + (j - suc i))) → xs ≡ ys
same_pairs n xs ys a b each = ext_get_or 0 xs ys (a ∙ sym b) (λ k h.
    let at = pair_at n k n (omega arith) (omega (arith, h, a)) in
    subst (λ x. slice_index xs x ≡ slice_index ys x) at.4 (each at.0 at.1 at.2 at.3))

-- each place below n rows of f is that of a site and a fixed charge
abbrev IsPlaceOfNear : ℕ → ℕ → ℕ → Type 0
IsPlaceOfNear n f k = (i : ℕ) × (a : ℕ) × (i < n) × (a < f) × (i * f + a ≡ k)

near_in_row : (n f k : ℕ) → k < suc n * f → (k < n * f) ⊎ (n * f ≤ k) → (k < n * f → IsPlaceOfNear n f k) → IsPlaceOfNear (suc n) f k
near_in_row n f k h (inl less) before =
    let at = before less in
    (at.0, at.1, omega (arith, at.2), at.3, at.4)
near_in_row n f k h (inr more) before = (n, k - n * f, omega arith, omega (arith, h, more), omega (arith, more))

near_at : (n f k : ℕ) → k < n * f → IsPlaceOfNear n f k
near_at zero f k h = absurd (omega (arith, h))
near_at (suc n) f k h = near_in_row n f k h (cases_lt k (n * f)) (λ less. near_at n f k less)

pub same_near : (n f : ℕ) (xs ys : List ℕ) → length xs ≡ n * f → length ys ≡ n * f
    → ((i a : ℕ) → i < n → a < f → slice_index xs (i * f + a) ≡ slice_index ys (i * f + a)) → xs ≡ ys
same_near n f xs ys a b each = ext_get_or 0 xs ys (a ∙ sym b) (λ k h.
    let at = near_at n f k (omega (arith, h, a)) in
    subst (λ x. slice_index xs x ≡ slice_index ys x) at.4 (each at.0 at.1 at.2 at.3))
