-- layouts: places of one lattice that hold sites and fixed charges
use Rattle.std.specs.Prelude.{◌≢◌, ◌≤◌, List, All, Contains, length}
use Rattle.charge_model.specs.declared.TheConstants.{MAX_SITES, MAX_FIXED}
use Rattle.sidb_layout.specs.declared.site.Site.{Site}
use Rattle.sidb_layout.specs.declared.site.Fix.{Fix}
use Rattle.sidb_layout.specs.declared.lattice.Lattice.{Lattice}
use Rattle.sidb_layout.specs.declared.TheConstants.{LEAST_SQUARED_DISTANCE}
use Rattle.sidb_layout.specs.Site.{IsInRange, IsFixInRange, IsInRowOrder, places_of, places_of_fixes}
use Rattle.sidb_layout.specs.Lattice.{squared_distance}

-- a lattice, the places of sites, and the fixed charges
pub record Arrangement : Type 0 where
  pub lattice : Lattice
  pub sites : List Site
  pub fixes : List Fix

-- these parts together
abbrev pub arrangement_of : Lattice → List Site → List Fix → Arrangement
arrangement_of lattice sites fixes = record { lattice = lattice; sites = sites; fixes = fixes }

-- two different places of the list are at least 2.25 Å apart
abbrev pub AreApart : Lattice → List Site → Type 0
AreApart lattice places = (a b : Site) → Contains places a → Contains places b → a ≢ b
    → LEAST_SQUARED_DISTANCE ≤ squared_distance lattice a b

-- what each layout keeps
pub record IsLayout (p : Arrangement) : Type 0 where
  pub few_sites : length p.sites ≤ MAX_SITES
  pub few_fixes : length p.fixes ≤ MAX_FIXED
  pub sites_in_range : All IsInRange p.sites
  pub fixes_in_range : All IsFixInRange p.fixes
  pub sites_in_order : IsInRowOrder p.sites
  pub fixes_in_order : IsInRowOrder (places_of_fixes p.fixes)
  pub no_fix_on_a_site : (s : Site) → Contains p.sites s → Contains (places_of_fixes p.fixes) s → ⊥
  pub apart : AreApart p.lattice (places_of p.sites p.fixes)
