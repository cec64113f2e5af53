-- what a report is about
use Rattle.std.specs.Prelude.{◌≡◌, ℕ, ◌&&◌, Bool, true, false, if◌then◌else◌, List, [], ◌∷◌, length, All, Option, Some, None, IfSome}
use Rattle.std.specs.Ordering.{int_eq}
use Rattle.sidb_layout.specs.declared.lattice.Lattice.{Lattice}
use Rattle.sidb_layout.specs.declared.site.Fix.{Fix}
use Rattle.sidb_layout.specs.Lattice.{silicon}
use Rattle.sidb_layout.specs.Layout.{Arrangement}
use Rattle.charge_model.specs.Problem.{Problem}
use Rattle.charge_model.specs.Rules.{IsChargeList}
use Rattle.charge_model.specs.GroundList.{Entry}
use Rattle.ground_report.specs.declared.about.About.{About}

-- whether the vectors are those of silicon
abbrev pub is_silicon : Lattice → Bool
is_silicon v = int_eq v.ax silicon.ax && int_eq v.ay silicon.ay && int_eq v.bx silicon.bx
    && int_eq v.by silicon.by && int_eq v.cx silicon.cx && int_eq v.cy silicon.cy

-- whether there are no fixed charges
abbrev pub has_none : List Fix → Bool
has_none [] = true
has_none (f ∷ fs) = false

-- the version of a report: 2 where the layout has fixed charges, or another lattice than silicon
abbrev pub version_of : Option Arrangement → ℕ
version_of None = 1
version_of (Some l) = if is_silicon l.lattice && has_none l.fixes then 1 else 2

-- how many items of the layout's text were skipped; none where there is no layout
abbrev pub skipped_in : About → ℕ
skipped_in a = skipped_with a.layout a.skipped
  where
    skipped_with : Option Arrangement → ℕ → ℕ
    skipped_with None k = 0
    skipped_with (Some l) k = k

-- the report is about this problem: its layout, where there is one, has as many sites
abbrev pub IsAboutProblem : About → Problem → Type 0
IsAboutProblem a p = IfSome a.layout (λ l. length l.sites ≡ p.sites)

-- the entries are charge lists of the problem
abbrev pub AreListsOfProblem : Problem → List Entry → Type 0
AreListsOfProblem p es = All (λ e. IsChargeList p e.charges) es
