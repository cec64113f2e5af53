-- the points of a grid, as parameters
use Rattle.std.specs.Prelude.{◌≡◌, ℕ, ◌<◌, ◌/◌, ◌%◌, List, length, slice_index_or}
use Rattle.model_params.specs.declared.params.Params.{Params}
use Rattle.gate_model.specs.Grids.{Axes, point_at}

-- point k of a grid, permittivity outer and screening length inner; all else is as it was
pub record IsPoint (p : Params) (a : Axes) (k : ℕ) (point : Params) : Type 0 where
  pub eps : point.eps ≡ point_at a.eps (k / a.lam.count)
  pub lam : point.lam ≡ point_at a.lam (k % a.lam.count)
  pub coulomb : point.coulomb ≡ p.coulomb
  pub depth : point.depth ≡ p.depth
  pub gap : point.gap ≡ p.gap
  pub base : point.base ≡ p.base

-- the first n points of a grid, in order
pub record ArePoints (p : Params) (a : Axes) (n : ℕ) (points : List Params) : Type 0 where
  pub count : length points ≡ n
  pub each : (k : ℕ) → k < n
      → (point : Params) × (slice_index_or points k point ≡ point) × IsPoint p a k point
