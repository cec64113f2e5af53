-- the classes of the squared distances of a layout
use Rattle.std.specs.Prelude.{◌≡◌, ◌≢◌, ℕ, suc, ◌+◌, ◌-◌, ◌*◌, ◌^◌, ◌<◌, ◌≤◌, min, max, ◌⊎◌, List, All, length, slice_get, slice_index, Some}
use Rattle.std.specs.List.Sorted.{IsStrictlyIncreasing}
use Rattle.charge_model.specs.declared.TheConstants.{MAX_SITES, MAX_FIXED}
use Rattle.charge_model.specs.Problem.{pairs_before}
use Rattle.sidb_layout.specs.declared.TheConstants.{LEAST_SQUARED_DISTANCE}
use Rattle.sidb_layout.specs.Site.{place_at, places_of_fixes}
use Rattle.sidb_layout.specs.Lattice.{squared_distance}
use Rattle.sidb_layout.specs.Layout.{Arrangement}

-- how many sites and fixed charges there are, the squared distances in rising order,
-- the class of each pair of sites in the order (0,1), (0,2) and on,
-- and that of each site with each fixed charge, by site: a class is a place in the distances
pub record Classing : Type 0 where
  pub sites : ℕ
  pub fixes : ℕ
  pub distances : List ℕ
  pub pair_classes : List ℕ
  pub near_classes : List ℕ

-- these parts together
abbrev pub classing_of : ℕ → ℕ → List ℕ → List ℕ → List ℕ → Classing
classing_of sites fixes distances pair_classes near_classes = record {
  sites = sites;
  fixes = fixes;
  distances = distances;
  pair_classes = pair_classes;
  near_classes = near_classes;
}

-- the class of two distinct sites, in either order
unfoldable pub class_between : Classing → ℕ → ℕ → ℕ
class_between c i j =
    slice_index c.pair_classes (pairs_before c.sites (min i j) + (max i j - suc (min i j)))

-- the class of site i with fixed charge a
unfoldable pub class_near : Classing → ℕ → ℕ → ℕ
class_near c i a = slice_index c.near_classes (i * c.fixes + a)

-- the squared distance of a class
abbrev pub distance_of : Classing → ℕ → ℕ
distance_of c class = slice_index c.distances class

-- a squared distance is at least that of the two atoms of a dimer, and below 2^47
pub record IsDistance (d : ℕ) : Type 0 where
  pub least : LEAST_SQUARED_DISTANCE ≤ d
  pub greatest : d < 2 ^ 47

-- what all classes keep
pub record IsClassing (c : Classing) : Type 0 where
  pub few_sites : c.sites ≤ MAX_SITES
  pub few_fixes : c.fixes ≤ MAX_FIXED
  pub class_per_pair : length c.pair_classes ≡ pairs_before c.sites c.sites
  pub class_per_near : length c.near_classes ≡ c.sites * c.fixes
  pub classes : All (λ k. k < length c.distances) c.pair_classes
  pub near : All (λ k. k < length c.distances) c.near_classes
  pub few_classes : length c.distances ≤ pairs_before c.sites c.sites + c.sites * c.fixes
  pub rising : IsStrictlyIncreasing c.distances
  pub in_range : All IsDistance c.distances

-- the squared distance of sites i and j, in (10^-2 Å)²
abbrev pub pair_distance : Arrangement → ℕ → ℕ → ℕ
pair_distance p i j = squared_distance p.lattice (place_at p.sites i) (place_at p.sites j)

-- the squared distance of site i and fixed charge a, in (10^-2 Å)²
abbrev pub near_distance : Arrangement → ℕ → ℕ → ℕ
near_distance p i a =
    squared_distance p.lattice (place_at p.sites i) (place_at (places_of_fixes p.fixes) a)

-- d is the squared distance of two sites, or of a site and a fixed charge
abbrev pub IsBetween : Arrangement → ℕ → Type 0
IsBetween p d =
    ((i : ℕ) × (j : ℕ) × (i < j) × (j < length p.sites) × (d ≡ pair_distance p i j))
    ⊎ ((i : ℕ) × (a : ℕ) × (i < length p.sites) × (a < length p.fixes) × (d ≡ near_distance p i a))

-- the classes of a layout: each distance is one of the layout,
-- and the distance of each pair's class is that of the pair
pub record AreClasses (p : Arrangement) (c : Classing) : Type 0 where
  pub whole : IsClassing c
  pub sites : c.sites ≡ length p.sites
  pub fixes : c.fixes ≡ length p.fixes
  pub used : All (IsBetween p) c.distances
  pub pairs : (i j : ℕ) → i ≢ j → i < length p.sites → j < length p.sites
      → slice_get c.distances (class_between c i j) ≡ Some (pair_distance p i j)
  pub nears : (i a : ℕ) → i < length p.sites → a < length p.fixes
      → slice_get c.distances (class_near c i a) ≡ Some (near_distance p i a)
