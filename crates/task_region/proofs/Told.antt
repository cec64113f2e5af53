-- what the region answer tells
use Rattle.std.proofs.Common.{◌≡◌, subst, ℕ, inl, inr, List, Option, Some}
use Rattle.clap.specs.Walk.{Text}
use Rattle.sidb_layout.specs.Layout.{Arrangement}
use Rattle.model_params.specs.declared.params.Params.{Params}
use Rattle.command_words.specs.declared.settings.Settings.{Settings}
use Rattle.command_words.specs.Options.{IsReadWhereGiven}
use Rattle.command_words.specs.Settings.{HasRegionNeeds}
use Rattle.gate_model.specs.Grids.{AreAxes, Axes, HasFarEnds}
use Rattle.gate_model.specs.GridTexts.{IsGridText}
use Rattle.gate_model.specs.Logic.{Logic}
use Rattle.bdl_pairs.specs.declared.cell.CellAnswer.{CellAnswer}
use Rattle.operational_domain.specs.Placed.{Placed}
use Rattle.parameter_regions.specs.declared.rectangles.Rectangle.{Rectangle}
use Rattle.parameter_regions.specs.Points.{Point}
use Rattle.parameter_regions.specs.Rectangles.{IsInRectangle}
use Rattle.region_tiles.specs.declared.tiles.Tile.{Tile}
use Rattle.region_tiles.specs.Rectangles.{IsGridWhole}
use Rattle.region_tiles.specs.Tiles.{AreJudgedTiles}
use Rattle.region_domain.specs.Promises.{TellsEverywhere}
use Rattle.region_domain.specs.Region.{AreRegionTiles, IsToldBy}
use Rattle.region_domain.specs.Tiles.{IsTileAnswer}
use Rattle.run_answer.specs.declared.status.Status.TheVariants.{Answered}
use Rattle.task_gate.specs.TruthAnswer.{placed_by}
use Rattle.task_region.specs.RegionAnswer.{IsRegionAnswer, IsRegionOfGate, IsRegionReport}
use Rattle.task_region.specs.Told.{TellsRegion, TellsRegionOfGate}
use Rattle.task_region.proofs.SomeAnswer.{GridsAreGrids, axes_in}

-- what the laws say of grids, of tiles and of each point
pub record RegionsHold : Type 0 where
  pub grids : GridsAreGrids
  pub whole : (p : Params) (a : Axes) → AreAxes a → HasFarEnds a → (whole : Rectangle) × IsGridWhole p a whole
  pub judged : (placed : Placed) (p : Params) (a : Axes) (depth : ℕ) (whole : Rectangle) (tiles : List Tile) → AreAxes a → IsGridWhole p a whole → AreRegionTiles placed p a depth tiles
      → AreJudgedTiles (IsTileAnswer placed) whole tiles
  pub tells : (placed : Placed) (r : Rectangle) (answer : CellAnswer) → IsTileAnswer placed r answer → TellsEverywhere placed r answer
  pub told : (placed : Placed) (p : Params) (a : Axes) (depth : ℕ) (whole : Rectangle) (tiles : List Tile) → AreAxes a → IsGridWhole p a whole → AreRegionTiles placed p a depth tiles
      → (point : Point) → IsInRectangle whole point → IsToldBy placed tiles point

module _ (laws : RegionsHold) (s : Settings) (gate : Logic) (a : Axes) (layout : Arrangement) (text : List ℕ) (axes : AreAxes a) (far : HasFarEnds a) where
  report_tells : IsRegionReport s (placed_by s gate layout) a text → TellsRegionOfGate s gate a layout text
  report_tells is =
      let placed : Placed = placed_by s gate layout in
      let (whole, of_grid) = laws.whole s.params a axes far in
      let judged = laws.judged placed s.params a s.region.refine whole is.tiles axes of_grid is.of_grid in
      record {
        tiles = is.tiles;
        prints = is.prints;
        whole = whole;
        of_grid = of_grid;
        tiling = judged.tiling;
        holds = λ k d lt. laws.tells placed _ _ (judged.answers k d lt);
        told = laws.told placed s.params a s.region.refine whole is.tiles axes of_grid is.of_grid;
      }

  region_tells : IsRegionOfGate s gate a layout Answered text → TellsRegionOfGate s gate a layout text
  region_tells (inl (on, (status, is))) = report_tells is
  region_tells (inr site) = absurd (cc (site.answers.status_is))

-- the grid of the answer is that of the needs
same_axes : (grid : Option Axes) (a b : Axes) → grid ≡ Some a → grid ≡ Some b → a ≡ b
same_axes grid a b e f = cc (e, f)

pub told_region : RegionsHold → (s : Settings) (points : Option Text) (layout : Arrangement) (text : List ℕ) → HasRegionNeeds s → IsReadWhereGiven IsGridText points s.gate.grid
    → IsRegionAnswer s layout Answered text → TellsRegion s layout text
told_region laws s points layout text needs read is =
    let same = same_axes s.gate.grid needs.axes is.axes needs.points is.points in
    let axes = subst AreAxes same (axes_in laws.grids s points needs read) in
    let far = subst HasFarEnds same needs.far_ends in
    record { gate = is.gate; given = is.given; axes = is.axes; points = is.points; tells = region_tells laws s is.gate is.axes layout text axes far is.answers }
