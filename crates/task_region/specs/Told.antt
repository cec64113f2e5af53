-- what the report of a region tells of every point of the whole rectangle of its grid
use Rattle.std.specs.Prelude.{◌≡◌, ℕ, List, All, Some}
use Rattle.sidb_layout.specs.Layout.{Arrangement}
use Rattle.command_words.specs.declared.settings.Settings.{Settings}
use Rattle.gate_model.specs.Grids.{Axes}
use Rattle.gate_model.specs.Logic.{Logic}
use Rattle.operational_domain.specs.Placed.{Placed}
use Rattle.parameter_regions.specs.declared.rectangles.Rectangle.{Rectangle}
use Rattle.parameter_regions.specs.Points.{Point}
use Rattle.parameter_regions.specs.Rectangles.{IsInRectangle}
use Rattle.region_tiles.specs.declared.tiles.Tile.{Tile}
use Rattle.region_tiles.specs.Rectangles.{IsGridWhole}
use Rattle.region_tiles.specs.Tiles.{AreTiles, rectangles_in}
use Rattle.region_domain.specs.Promises.{TellsEverywhere}
use Rattle.region_domain.specs.Region.{IsToldBy}
use Rattle.task_gate.specs.Answers.{IsGivenGate}
use Rattle.task_gate.specs.TruthAnswer.{placed_by}
use Rattle.task_region.specs.RegionAnswer.{region_report}

-- a tile's answer tells what the gate does at every point of the tile
abbrev pub TileTells : Placed → Tile → Type 0
TileTells placed tile = TellsEverywhere placed tile.rectangle tile.answer

-- the text is the report of tiles of the whole rectangle of the grid, each of which tells so of its
-- points; and so each point of the whole, its borders included, lies in a tile that tells of it
pub record TellsRegionOfGate (s : Settings) (gate : Logic) (a : Axes) (layout : Arrangement)
    (text : List ℕ) : Type 0 where
  pub tiles : List Tile
  pub prints : text ≡ region_report s.report.json tiles
  pub whole : Rectangle
  pub of_grid : IsGridWhole s.params a whole
  pub tiling : AreTiles whole (rectangles_in tiles)
  pub holds : All (TileTells (placed_by s gate layout)) tiles
  pub told : (point : Point) → IsInRectangle whole point
      → IsToldBy (placed_by s gate layout) tiles point

-- that, for the gate and the grid that the settings give
pub record TellsRegion (s : Settings) (layout : Arrangement) (text : List ℕ) : Type 0 where
  pub gate : Logic
  pub given : IsGivenGate s.gate gate
  pub axes : Axes
  pub points : s.gate.grid ≡ Some axes
  pub tells : TellsRegionOfGate s gate axes layout text
