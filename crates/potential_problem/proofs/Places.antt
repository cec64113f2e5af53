-- the places of pairs
use Rattle.std.proofs.Common.{◌≡◌, ℕ, zero, suc, ◌+◌, ◌-◌, ◌*◌, ◌≤◌, ◌<◌, refl, arith, ◌⊎◌, inl, inr, min, max, length, get_or}
use Rattle.std.proofs.lemmas.Bool.{cases_lt}
use Rattle.std.proofs.lemmas.List.{get_or_read}
use Rattle.std.proofs.Math.Nat.{mul-le-mul_right}
use Rattle.charge_model.specs.Problem.{Problem, IsProblem, pairs_before, near_class_of, fixed_count}

-- twice the pairs, by a product
pub pairs_before-twice : (n i : ℕ) → i ≤ n → 2 * pairs_before n i + i * (i + 1) ≡ 2 * (i * n)
pairs_before-twice n zero h = omega arith
pairs_before-twice n (suc i) h = omega (arith, pairs_before-twice n i (omega arith))

-- the pairs of one first site lie before those of the next
pub pairs_before-le : (n i k : ℕ) → i ≤ k → pairs_before n i ≤ pairs_before n k
pairs_before-le n zero zero h = omega arith
pairs_before-le n (suc i) zero h = absurd (omega arith)
pairs_before-le n zero (suc k) h = omega arith
pairs_before-le n (suc i) (suc k) h = by (cases_lt i k) (λ l. pairs_before-le n (suc i) k l)
  where
    by : (i < k) ⊎ (k ≤ i) → (i < k → pairs_before n (suc i) ≤ pairs_before n k) → pairs_before n i + (n - suc i) ≤ pairs_before n k + (n - suc k)
    by (inl l) before = omega (arith, before l)
    by (inr g) before = let e : i ≡ k = omega arith in rw e (omega arith)

pub place_in_order : (n i j : ℕ) → i < j → pairs_before n i + (j - suc i) ≡ pairs_before n (min i j) + (max i j - suc (min i j))
place_in_order n i j h = let a : min i j ≡ i = omega arith in let b : max i j ≡ j = omega arith in rw (a, b) refl

pub place_turned : (n i j : ℕ) → j < i → pairs_before n j + (i - suc j) ≡ pairs_before n (min i j) + (max i j - suc (min i j))
place_turned n i j h = let a : min i j ≡ j = omega arith in let b : max i j ≡ i = omega arith in rw (a, b) refl

-- what stands at the place of a site and a fixed charge is their class
pub near_read : (p : Problem) (i a n r : ℕ) → IsProblem p → i < p.sites → a < fixed_count p → n ≡ fixed_count p → r ≡ get_or p.near_classes (i * n + a) r → r ≡ near_class_of p i a
unfolding near_class_of
near_read p i a n r is l m same read =
    let row : suc i ≤ p.sites = omega arith in
    let rows = mul-le-mul_right (fixed_count p) row in
    let at : i * fixed_count p + a < length p.near_classes = omega (arith, is.class_per_near, rows) in
    get_or_read p.near_classes (i * fixed_count p + a) r at (rw same at read) 0
