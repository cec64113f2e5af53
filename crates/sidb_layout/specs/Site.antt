-- places of a lattice, fixed charges, and row order
use Rattle.std.specs.Prelude.{◌≡◌, ◌≤◌, ℕ, pos, ◌<ℤ◌, ◌⊎◌, List, ◌++◌, map, slice_index_or, AllPairs, unsigned_abs}
use Rattle.std.specs.declared.cmp.Ordering.{Ordering}
use Rattle.std.specs.Ordering.{int_cmp, on, then_cmp}
use Rattle.charge_model.specs.Problem.{IsFixedCharge}
use Rattle.sidb_layout.specs.declared.site.Site.{Site}
use Rattle.sidb_layout.specs.declared.site.Fix.{Fix}
use Rattle.sidb_layout.specs.declared.TheConstants.{MAX_PLACE}

-- the numbers of a place are in range
pub record IsInRange (s : Site) : Type 0 where
  pub column : unsigned_abs s.n ≤ MAX_PLACE
  pub row : unsigned_abs s.m ≤ MAX_PLACE
  pub atom : (s.l ≡ pos 0) ⊎ (s.l ≡ pos 1)

-- the place and the charge of a fixed charge are in range
pub record IsFixInRange (f : Fix) : Type 0 where
  pub place : IsInRange f.site
  pub charge : IsFixedCharge f.charge

-- a stands before b: in an earlier row, or in the same row at an earlier atom of the dimers,
-- or in the same row at the same atom in an earlier column
abbrev pub IsRowBefore : Site → Site → Type 0
IsRowBefore a b = (a.m <ℤ b.m)
    ⊎ ((a.m ≡ b.m) × ((a.l <ℤ b.l) ⊎ ((a.l ≡ b.l) × (a.n <ℤ b.n))))

-- that order as a comparison
abbrev pub row_cmp : Site → Site → Ordering
row_cmp = then_cmp (on (λ s. s.m) int_cmp)
    (then_cmp (on (λ s. s.l) int_cmp) (on (λ s. s.n) int_cmp))

-- each place stands before all later ones
abbrev pub IsInRowOrder : List Site → Type 0
IsInRowOrder places = AllPairs IsRowBefore places

-- the first atom of column 0 in row 0
abbrev pub origin : Site
origin = record { n = pos 0; m = pos 0; l = pos 0 }

-- place i of a list
abbrev pub place_at : List Site → ℕ → Site
place_at places i = slice_index_or places i origin

-- the places of fixed charges
abbrev pub places_of_fixes : List Fix → List Site
places_of_fixes fixes = map (λ f. f.site) fixes

-- the places of sites and then of fixed charges
abbrev pub places_of : List Site → List Fix → List Site
places_of sites fixes = sites ++ places_of_fixes fixes
