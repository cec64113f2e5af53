-- rising lists of numbers, and places in them
use Rattle.std.proofs.Common.{◌≡◌, ℕ, ◌<◌, ◌≤◌, ◌⊎◌, inl, inr, List, ◌++◌, length, length-append, get_or, Err, arith, ap, ◌∙◌}
use Rattle.std.specs.Prelude.{All, Contains, IsPermutation}
use Rattle.std.specs.List.{dedup}
use Rattle.std.specs.List.Sorted.{IsStrictlyIncreasing, IsSorted, IsBinarySearchResult}
use Rattle.std.specs.Ordering.{nat_cmp}
use Rattle.std.proofs.lemmas.Bool.{cases_lt}
use Rattle.std.proofs.lemmas.List.{get_or_default}
use Rattle.std.proofs.lemmas.List.Elements.{Contains-get_or, Contains-append_left, Contains-append_right, Contains-append_cases}
use Rattle.std.proofs.lemmas.List.Kept.{AllPairs-from_increasing, Contains-dedup_nat, Contains-from_dedup}
use Rattle.std.proofs.lemmas.List.Sorted.{searched, length_permutation, Contains-permutation, IsPermutation-sym}
use Rattle.std.proofs.lemmas.Map.Keys.{IsStrictlyIncreasing-dedup}
use Rattle.std.specs.Prelude.{eqb}
use Rattle.sidb_lattice.specs.Measured.{AreRising}

-- what is left of two lists that are joined, sorted and rid of repeats
pub rising_made : (xs ys all sorted out : List ℕ) → all ≡ xs ++ ys → IsPermutation all sorted → IsSorted nat_cmp sorted
    → out ≡ dedup eqb sorted → length out ≤ length sorted → AreRising xs ys out
rising_made xs ys all sorted out joined moved in_order is bound =
    let size = ap (λ (zs : List ℕ). length zs) joined in
    record {
      rises = rw is (IsStrictlyIncreasing-dedup sorted in_order);
      few = omega (arith, bound, length_permutation all sorted moved, size, length-append xs ys);
      from = λ d h.
          let kept = Contains-from_dedup eqb sorted d (rw is at h) in
          let given = Contains-permutation sorted all d (IsPermutation-sym all sorted moved) kept in
          Contains-append_cases xs ys d (rw joined at given);
      first = λ d h. rw is (Contains-dedup_nat sorted d (Contains-permutation all sorted d moved (rw joined (Contains-append_left xs ys d h))));
      second = λ d h. rw is (Contains-dedup_nat sorted d (Contains-permutation all sorted d moved (rw joined (Contains-append_right xs ys d h))));
    }

pub all_first : (xs ys rising : List ℕ) → AreRising xs ys rising → All (Contains rising) xs
all_first xs ys rising h k d within = h.first (get_or xs k d) (Contains-get_or xs k d within)

pub all_second : (xs ys rising : List ℕ) → AreRising xs ys rising → All (Contains rising) ys
all_second xs ys rising h k d within = h.second (get_or ys k d) (Contains-get_or ys k d within)

pub rises_weakly : (xs : List ℕ) → IsStrictlyIncreasing xs → (i j : ℕ) → i ≤ j → j < length xs → get_or xs i 0 ≤ get_or xs j 0
rises_weakly xs h i j le within = by (cases_lt i j)
  where
    by : (i < j) ⊎ (j ≤ i) → get_or xs i 0 ≤ get_or xs j 0
    by (inl l) = let below = AllPairs-from_increasing xs h i j 0 l within in omega arith
    by (inr g) = let same : i ≡ j = omega arith in rw same (omega arith)

-- a search finds a number that is there
pub not_missed : (xs : List ℕ) (x i : ℕ) → IsStrictlyIncreasing xs → Contains xs x
    → IsBinarySearchResult (λ y. nat_cmp y x) xs (Err i) → ⊥
not_missed xs x i rises (k, within, at) missed = by (cases_lt k i)
  where
    found : get_or xs k 0 ≡ x
    found = get_or_default xs k 0 x within ∙ at

    split : (i ≤ length xs) × ((k : ℕ) → k < i → get_or xs k 0 < x) × ((k : ℕ) → i ≤ k → k < length xs → x < get_or xs k 0)
    split = searched xs x (Err i) missed (rises_weakly xs rises)

    by : (k < i) ⊎ (i ≤ k) → ⊥
    by (inl l) = let less = split.1 k l in omega (arith, found)
    by (inr g) = let more = split.2 k g within in omega (arith, found)
