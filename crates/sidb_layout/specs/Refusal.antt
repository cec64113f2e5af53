-- when places and fixed charges make no layout
use Rattle.std.specs.Prelude.{◌≡◌, ◌≢◌, ℕ, ◌+◌, ◌<◌, ◌≤◌, ◌⊎◌, List, All, AllPairs, IsPermutation, IsSomeAnd, length, take, slice_get}
use Rattle.charge_model.specs.declared.TheConstants.{MAX_SITES, MAX_FIXED}
use Rattle.sidb_layout.specs.declared.site.Site.{Site}
use Rattle.sidb_layout.specs.declared.site.Fix.{Fix}
use Rattle.sidb_layout.specs.declared.lattice.Lattice.{Lattice}
use Rattle.sidb_layout.specs.declared.fault.LayoutFault.{LayoutFault}
use Rattle.sidb_layout.specs.declared.fault.LayoutFault.TheVariants.{OutOfRange, TooMany, TooManyFixes, Duplicate, TooClose, Memory}
use Rattle.sidb_layout.specs.declared.TheConstants.{LEAST_SQUARED_DISTANCE}
use Rattle.sidb_layout.specs.Site.{IsInRange, IsFixInRange, place_at, places_of}
use Rattle.sidb_layout.specs.Lattice.{squared_distance}
use Rattle.sidb_layout.specs.Layout.{Arrangement, IsLayout}

-- element i is the first outside P
pub record IsFirstOutside {X : Type 0} (P : X → Type 0) (xs : List X) (i : ℕ) : Type 0 where
  pub before : All P (take i xs)
  pub outside : IsSomeAnd (slice_get xs i) (λ x. ¬ P x)

-- place i, counted through the sites and then the fixed charges, is the first out of range
abbrev pub IsFirstOutOfRange : List Site → List Fix → ℕ → Type 0
IsFirstOutOfRange sites fixes i = IsFirstOutside IsInRange sites i
    ⊎ ((a : ℕ) × (i ≡ length sites + a) × All IsInRange sites × IsFirstOutside IsFixInRange fixes a)

-- i is the earliest place before place j to which R relates place j
pub record IsEarliest (R : Site → Site → Type 0) (places : List Site) (i j : ℕ) : Type 0 where
  pub before : i < j
  pub related : R (place_at places i) (place_at places j)
  pub earliest : (k : ℕ) → k < i → ¬ R (place_at places k) (place_at places j)

-- j is the first place that R relates to an earlier one, and i the earliest such
pub record IsFirstPair (R : Site → Site → Type 0) (places : List Site) (i j : ℕ) : Type 0 where
  pub within : j < length places
  pub earliest : IsEarliest R places i j
  pub first : (k m : ℕ) → k < m → m < j → ¬ R (place_at places k) (place_at places m)

-- two places lie less than 2.25 Å apart
abbrev pub IsTooClose : Lattice → Site → Site → Type 0
IsTooClose lattice a b = squared_distance lattice a b < LEAST_SQUARED_DISTANCE

-- all places and charges are in range
pub record ArePlacesInRange (sites : List Site) (fixes : List Fix) : Type 0 where
  pub all_sites : All IsInRange sites
  pub all_fixes : All IsFixInRange fixes

-- and there are few enough of both
pub record AreFew (sites : List Site) (fixes : List Fix) : Type 0 where
  pub in_range : ArePlacesInRange sites fixes
  pub few_sites : length sites ≤ MAX_SITES
  pub few_fixes : length fixes ≤ MAX_FIXED

-- no two places are the same
abbrev pub AreDistinct : List Site → Type 0
AreDistinct places = AllPairs (λ a b. a ≢ b) places

-- the refusals, in their order: each says that none before it comes
abbrev pub IsLayoutRefusal : Lattice → List Site → List Fix → LayoutFault → Type 0
IsLayoutRefusal v sites fixes (OutOfRange i) = IsFirstOutOfRange sites fixes i
IsLayoutRefusal v sites fixes TooMany = ArePlacesInRange sites fixes × (MAX_SITES < length sites)
IsLayoutRefusal v sites fixes TooManyFixes =
    ArePlacesInRange sites fixes × (length sites ≤ MAX_SITES) × (MAX_FIXED < length fixes)
IsLayoutRefusal v sites fixes (Duplicate i j) =
    AreFew sites fixes × IsFirstPair (λ a b. a ≡ b) (places_of sites fixes) i j
IsLayoutRefusal v sites fixes (TooClose i j) = AreFew sites fixes
    × AreDistinct (places_of sites fixes)
    × IsFirstPair (IsTooClose v) (places_of sites fixes) i j
IsLayoutRefusal v sites fixes Memory = ⊥

-- a layout on this lattice that holds exactly these sites and fixed charges
pub record IsMadeOf (v : Lattice) (sites : List Site) (fixes : List Fix) (p : Arrangement)
    : Type 0 where
  pub layout : IsLayout p
  pub on_lattice : p.lattice ≡ v
  pub same_sites : IsPermutation sites p.sites
  pub same_fixes : IsPermutation fixes p.fixes
