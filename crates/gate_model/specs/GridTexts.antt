-- grids in texts: `START:STEP:COUNT` for permittivity, a comma, and the same for screening length
use Rattle.std.specs.Prelude.{◌≡◌, ℕ, ℤ, pos, List, [], ◌∷◌}
use Rattle.sidb_units.specs.Decimal.{IsReadAs}
use Rattle.sidb_units.specs.declared.TheConstants.{MAX_GRID}
use Rattle.model_params.specs.declared.quantity.Quantity.{Quantity}
use Rattle.model_params.specs.Quantities.{permittivity, screening_length}
use Rattle.gate_model.specs.declared.TheConstants.{MAX_GRID_STEP}
use Rattle.gate_model.specs.declared.grid.Axis.{Axis}
use Rattle.gate_model.specs.Grids.{Axes, HasPointsIn}
use Rattle.gate_model.specs.Pairs.{between_colons, parts}

-- the first point of a direction: a decimal in the range of the quantity
abbrev pub IsGridStart : Quantity → List ℕ → ℤ → Type 0
IsGridStart q word v = IsReadAs word q.places q.least q.greatest v

-- the step of a direction: a decimal from 0.0001 to 1000
abbrev pub IsGridStep : List ℕ → ℤ → Type 0
IsGridStep word v = IsReadAs word 4 (pos 1) MAX_GRID_STEP v

-- the number of points of a direction: a whole number from 1 to 64
abbrev pub IsCount : List ℕ → ℕ → Type 0
IsCount word n = IsReadAs word 0 (pos 1) (pos MAX_GRID) (pos n)

-- the three numbers of a direction
pub record AreNumbers (q : Quantity) (start step count : List ℕ) (axis : Axis) : Type 0 where
  pub start_number : IsGridStart q start axis.start
  pub step_number : IsGridStep step axis.step
  pub count_number : IsCount count axis.count

-- a direction in a text, each of whose points is in the range of the quantity
pub record IsAxisText (q : Quantity) (part : List ℕ) (axis : Axis) : Type 0 where
  pub start : List ℕ
  pub step : List ℕ
  pub count : List ℕ
  pub words : between_colons part ≡ start ∷ step ∷ count ∷ []
  pub numbers : AreNumbers q start step count axis
  pub inside : HasPointsIn q axis

-- a text is a grid
pub record IsGridText (text : List ℕ) (a : Axes) : Type 0 where
  pub eps_part : List ℕ
  pub lam_part : List ℕ
  pub both : parts text ≡ eps_part ∷ lam_part ∷ []
  pub eps : IsAxisText permittivity eps_part a.eps
  pub lam : IsAxisText screening_length lam_part a.lam
