-- what a gate answers at each point of a grid
use Rattle.std.specs.Prelude.{◌≡◌, ℕ, ◌<◌, ◌*◌, List, length, slice_index_or}
use Rattle.model_params.specs.declared.params.Params.{Params}
use Rattle.gate_model.specs.Grids.{Axes}
use Rattle.bdl_pairs.specs.declared.cell.Cell.{Cell}
use Rattle.operational_domain.specs.Placed.{Placed}
use Rattle.operational_domain.specs.Points.{IsPoint}
use Rattle.operational_domain.specs.Cells.{IsCellOf}

-- the cell of point k
pub record IsCellAt (placed : Placed) (p : Params) (a : Axes) (k : ℕ) (cell : Cell) : Type 0 where
  pub point : Params
  pub of_grid : IsPoint p a k point
  pub answers : IsCellOf placed point cell

-- one cell for each point of the grid, permittivity outer and screening length inner
pub record AreCells (placed : Placed) (p : Params) (a : Axes) (cells : List Cell) : Type 0 where
  pub count : length cells ≡ a.eps.count * a.lam.count
  pub each : (k : ℕ) → k < a.eps.count * a.lam.count
      → (cell : Cell) × (slice_index_or cells k cell ≡ cell) × IsCellAt placed p a k cell
