-- grids of points over permittivity and screening length
use Rattle.std.specs.Prelude.{ℕ, ℤ, pos, ◌<◌, ◌≤◌, ◌+ℤ◌, ◌*ℤ◌, ◌≤ℤ◌}
use Rattle.sidb_units.specs.declared.TheConstants.{MAX_GRID}
use Rattle.model_params.specs.declared.quantity.Quantity.{Quantity}
use Rattle.model_params.specs.Quantities.{IsInRangeOf, permittivity, screening_length}
use Rattle.gate_model.specs.declared.grid.Axis.{Axis}

-- point k of a direction, in the unit of its quantity
abbrev pub point_at : Axis → ℕ → ℤ
point_at axis k = axis.start +ℤ (axis.step *ℤ pos k)

-- each point of a direction is in the range of its quantity
abbrev pub HasPointsIn : Quantity → Axis → Type 0
HasPointsIn q axis = (k : ℕ) → k < axis.count → IsInRangeOf q (point_at axis k)

-- a direction with rising points, 1 to 64 of them, each in the range of its quantity
pub record IsAxis (q : Quantity) (axis : Axis) : Type 0 where
  pub rising : pos 1 ≤ℤ axis.step
  pub some : 1 ≤ axis.count
  pub few : axis.count ≤ MAX_GRID
  pub inside : HasPointsIn q axis

-- the two directions of a grid: permittivity and screening length
pub record Axes : Type 0 where
  pub eps : Axis
  pub lam : Axis

-- what each grid keeps
pub record AreAxes (a : Axes) : Type 0 where
  pub eps : IsAxis permittivity a.eps
  pub lam : IsAxis screening_length a.lam

-- the far end of each direction, one step behind its last point, is in the range of its quantity too
pub record HasFarEnds (a : Axes) : Type 0 where
  pub eps : IsInRangeOf permittivity (point_at a.eps a.eps.count)
  pub lam : IsInRangeOf screening_length (point_at a.lam a.lam.count)
