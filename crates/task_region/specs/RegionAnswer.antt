-- what the gate that the settings give answers on a layout over the rectangles of a grid
use Rattle.std.specs.Prelude.{◌≡◌, ◌⊎◌, ℕ, Bool, true, false, List, Some}
use Rattle.sidb_layout.specs.Layout.{Arrangement}
use Rattle.command_words.specs.declared.settings.Settings.{Settings}
use Rattle.gate_model.specs.Grids.{Axes}
use Rattle.gate_model.specs.Logic.{Logic}
use Rattle.bdl_pairs.specs.Remaining.{IsOn}
use Rattle.operational_domain.specs.Placed.{Placed}
use Rattle.region_tiles.specs.declared.tiles.Tile.{Tile}
use Rattle.region_domain.specs.Region.{AreRegionTiles}
use Rattle.region_report.specs.RegionText.{region_text}
use Rattle.region_report.specs.RegionJson.{region_json}
use Rattle.run_answer.specs.declared.status.Status.{Status}
use Rattle.run_answer.specs.declared.status.Status.TheVariants.{Answered}
use Rattle.task_gate.specs.Answers.{IsGivenGate}
use Rattle.task_gate.specs.GateSite.{IsSiteAnswer}
use Rattle.task_gate.specs.TruthAnswer.{placed_by}

-- tiles as the region text, or as one line of JSON
abbrev pub region_report : Bool → List Tile → List ℕ
region_report false tiles = region_text tiles
region_report true tiles = region_json tiles

-- the report of the tiles of the grid's rectangles, cut as often as the settings allow;
-- all but permittivity and screening length is by the settings
pub record IsRegionReport (s : Settings) (v : Placed) (a : Axes) (text : List ℕ) : Type 0 where
  pub tiles : List Tile
  pub of_grid : AreRegionTiles v s.params a s.region.refine tiles
  pub prints : text ≡ region_report s.report.json tiles

-- that report: there is no other outcome
abbrev pub IsRegionOutcome : Settings → Placed → Axes → Status → List ℕ → Type 0
IsRegionOutcome s v a status text = (status ≡ Answered) × IsRegionReport s v a text

-- that, where all places of the gate are sites; else the line that names the first which is none
abbrev pub IsRegionOfGate : Settings → Logic → Axes → Arrangement → Status → List ℕ → Type 0
IsRegionOfGate s gate a layout status text =
    (IsOn gate layout.sites × IsRegionOutcome s (placed_by s gate layout) a status text)
    ⊎ IsSiteAnswer gate layout status text

-- that, for the gate and the grid that the settings give
pub record IsRegionAnswer (s : Settings) (layout : Arrangement) (status : Status) (text : List ℕ)
    : Type 0 where
  pub gate : Logic
  pub given : IsGivenGate s.gate gate
  pub axes : Axes
  pub points : s.gate.grid ≡ Some axes
  pub answers : IsRegionOfGate s gate axes layout status text
