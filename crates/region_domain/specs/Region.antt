-- the tiles of a gate over the rectangles of a grid
use Rattle.std.specs.Prelude.{ℕ, List, Contains}
use Rattle.model_params.specs.declared.params.Params.{Params}
use Rattle.gate_model.specs.Grids.{Axes}
use Rattle.operational_domain.specs.Placed.{Placed}
use Rattle.parameter_regions.specs.declared.rectangles.Rectangle.{Rectangle}
use Rattle.parameter_regions.specs.Points.{Point}
use Rattle.parameter_regions.specs.Rectangles.{IsInRectangle}
use Rattle.region_tiles.specs.declared.tiles.Tile.{Tile}
use Rattle.region_tiles.specs.Refined.{AreGridTiles, IsRefined}
use Rattle.region_domain.specs.Tiles.{IsTileAnswer}
use Rattle.region_domain.specs.Promises.{TellsEverywhere}

-- the tiles of one rectangle, each with the answer of the gate on it
abbrev pub AreTilesOf : Placed → ℕ → Rectangle → List Tile → Type 0
AreTilesOf placed depth r tiles = IsRefined (IsTileAnswer placed) depth r tiles

-- the tiles of the rectangles of a grid, in order, each with the answer of the gate on it
abbrev pub AreRegionTiles : Placed → Params → Axes → ℕ → List Tile → Type 0
AreRegionTiles placed p a depth tiles = AreGridTiles (IsTileAnswer placed) p a depth tiles

-- a point lies in a tile, whose answer tells what the gate does at every point of it
pub record IsToldBy (placed : Placed) (tiles : List Tile) (point : Point) : Type 0 where
  pub tile : Tile
  pub printed : Contains tiles tile
  pub inside : IsInRectangle tile.rectangle point
  pub tells : TellsEverywhere placed tile.rectangle tile.answer
