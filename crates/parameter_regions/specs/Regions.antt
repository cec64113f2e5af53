-- the problem of a layout over a rectangle of parameters, and the potential tables at its points
use Rattle.std.specs.Prelude.{◌≡◌, ◌≢◌, ℕ, ◌<◌, ◌≤◌, length, map}
use Rattle.charge_model.specs.Problem.{Problem, Table, class_of, near_class_of}
use Rattle.sidb_layout.specs.Layout.{Arrangement}
use Rattle.sidb_lattice.specs.Classes.{near_distance, pair_distance}
use Rattle.screened_coulomb.specs.Potential.{coulomb_of}
use Rattle.screened_coulomb.specs.Layouts.{IsProblemOf}
use Rattle.parameter_regions.specs.declared.rectangles.Rectangle.{Rectangle}
use Rattle.parameter_regions.specs.Points.{IsPotentialAt, Point}
use Rattle.parameter_regions.specs.Rectangles.{IsInRectangle}

-- the problem of a layout over a rectangle: that of the weakest corner,
-- but for the upper end of each span, which is that of the strongest corner
pub record IsRegionProblemOf (layout : Arrangement) (r : Rectangle) (problem : Problem)
    : Type 0 where
  pub weakest : Problem
  pub strongest : Problem
  pub of_weakest : IsProblemOf layout r.weakest weakest
  pub of_strongest : IsProblemOf layout r.strongest strongest
  pub rest : record problem { spans = weakest.spans } ≡ weakest
  pub least : map (λ s. s.lo) problem.spans ≡ map (λ s. s.lo) weakest.spans
  pub greatest : map (λ s. s.hi) problem.spans ≡ map (λ s. s.hi) strongest.spans

-- a table of the potentials at a point: it gives each two sites, and each site with each fixed
-- charge, a potential of their squared distance there
pub record IsTableAt (layout : Arrangement) (coulomb : ℕ) (point : Point) (problem : Problem)
    (t : Table) : Type 0 where
  pub positive : 1 ≤ t.scale
  pub pairs : (i j : ℕ) → i ≢ j → i < length layout.sites → j < length layout.sites
      → IsPotentialAt coulomb point (pair_distance layout i j) t.scale
      (t.potential (class_of problem i j))
  pub nears : (i a : ℕ) → i < length layout.sites → a < length layout.fixes
      → IsPotentialAt coulomb point (near_distance layout i a) t.scale
      (t.potential (near_class_of problem i a))

-- something holds under every table of the potentials at this point of a rectangle
abbrev pub UnderEveryTableAt
    : Arrangement → Rectangle → Problem → Point → (Table → Type 0) → Type 0
UnderEveryTableAt layout r problem point P =
    (t : Table) → IsTableAt layout (coulomb_of r.weakest) point problem t → P t

-- something holds at every point of a rectangle, under every table of the potentials there
abbrev pub AtEveryPoint : Arrangement → Rectangle → Problem → (Table → Type 0) → Type 0
AtEveryPoint layout r problem P =
    (point : Point) → IsInRectangle r point → UnderEveryTableAt layout r problem point P
