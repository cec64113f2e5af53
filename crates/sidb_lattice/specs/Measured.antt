-- lists of squared distances on the way to the classes of a layout
use Rattle.std.specs.Prelude.{◌≡◌, ℕ, suc, ◌+◌, ◌-◌, ◌*◌, ◌<◌, ◌≤◌, ◌⊎◌, List, All, Contains, length, slice_index}
use Rattle.std.specs.List.Sorted.{IsStrictlyIncreasing}
use Rattle.charge_model.specs.Problem.{pairs_before}
use Rattle.sidb_layout.specs.Layout.{Arrangement}
use Rattle.sidb_lattice.specs.Classes.{IsBetween, IsDistance, pair_distance, near_distance}

-- squared distances of the layout in the order of pairs:
-- those of the first sites below i, and of site i with the sites after it below j
pub record ArePairsUpto (p : Arrangement) (i j : ℕ) (ds : List ℕ) : Type 0 where
  pub whole : length ds ≡ pairs_before (length p.sites) i + (j - suc i)
  pub rows : (a b : ℕ) → a < i → a < b → b < length p.sites
      → slice_index ds (pairs_before (length p.sites) a + (b - suc a)) ≡ pair_distance p a b
  pub row : (b : ℕ) → i < b → b < j
      → slice_index ds (pairs_before (length p.sites) i + (b - suc i)) ≡ pair_distance p i b
  pub used : All (IsBetween p) ds
  pub in_range : All IsDistance ds

-- those of all pairs
abbrev pub AreAllPairs : Arrangement → List ℕ → Type 0
AreAllPairs p ds = ArePairsUpto p (length p.sites) (suc (length p.sites)) ds

-- squared distances of sites with fixed charges, by site:
-- those of the sites below i, and of site i with the fixed charges below a
pub record AreNearUpto (p : Arrangement) (i a : ℕ) (ds : List ℕ) : Type 0 where
  pub whole : length ds ≡ i * length p.fixes + a
  pub rows : (k b : ℕ) → k < i → b < length p.fixes
      → slice_index ds (k * length p.fixes + b) ≡ near_distance p k b
  pub row : (b : ℕ) → b < a → slice_index ds (i * length p.fixes + b) ≡ near_distance p i b
  pub used : All (IsBetween p) ds
  pub in_range : All IsDistance ds

-- those of all sites with all fixed charges
abbrev pub AreAllNear : Arrangement → List ℕ → Type 0
AreAllNear p ds = AreNearUpto p (length p.sites) 0 ds

-- the numbers of two lists in rising order, each once
pub record AreRising (xs ys rising : List ℕ) : Type 0 where
  pub rises : IsStrictlyIncreasing rising
  pub few : length rising ≤ length xs + length ys
  pub from : (d : ℕ) → Contains rising d → Contains xs d ⊎ Contains ys d
  pub first : (d : ℕ) → Contains xs d → Contains rising d
  pub second : (d : ℕ) → Contains ys d → Contains rising d

-- each place is where the number wanted stands in the list
pub record ArePlaces (xs wanted places : List ℕ) : Type 0 where
  pub whole : length places ≡ length wanted
  pub within : All (λ k. k < length xs) places
  pub found : (k : ℕ) → k < length wanted
      → slice_index xs (slice_index places k) ≡ slice_index wanted k
