-- settings that give a gate, and a layout, have a region answer
use Rattle.std.proofs.Common.{refl, subst, ℕ, ◌⊎◌, inl, inr, List, Option, Some}
use Rattle.clap.specs.Walk.{Text}
use Rattle.sidb_layout.specs.Layout.{Arrangement, IsLayout}
use Rattle.model_params.specs.declared.params.Params.{Params}
use Rattle.command_words.specs.declared.gate_settings.GateSettings.{GateSettings}
use Rattle.command_words.specs.declared.settings.Settings.{Settings}
use Rattle.command_words.specs.Gates.{HasGate}
use Rattle.command_words.specs.Options.{IsReadWhereGiven}
use Rattle.command_words.specs.Settings.{HasRegionNeeds}
use Rattle.gate_model.specs.Grids.{AreAxes, Axes, HasFarEnds}
use Rattle.gate_model.specs.GridTexts.{IsGridText}
use Rattle.gate_model.specs.Logic.{IsLogic, Logic}
use Rattle.bdl_pairs.specs.Remaining.{IsOn}
use Rattle.operational_domain.specs.Placed.{Placed}
use Rattle.region_tiles.specs.declared.tiles.Tile.{Tile}
use Rattle.region_domain.specs.Region.{AreRegionTiles}
use Rattle.run_answer.specs.declared.status.Status.{Status}
use Rattle.run_answer.specs.declared.status.Status.TheVariants.{Answered}
use Rattle.task_gate.specs.Answers.{IsGivenGate}
use Rattle.task_gate.specs.GateSite.{IsSiteAnswer}
use Rattle.task_gate.specs.TruthAnswer.{placed_by}
use Rattle.task_region.specs.RegionAnswer.{IsRegionAnswer, IsRegionOfGate, region_report}

-- a text means a grid that keeps what each grid keeps
abbrev pub GridsAreGrids : Type 0
GridsAreGrids = (points : Option Text) (axes : Axes) → IsReadWhereGiven IsGridText points (Some axes) → AreAxes axes

-- the grid that the settings have
pub axes_in : GridsAreGrids → (s : Settings) (points : Option Text) (needs : HasRegionNeeds s) → IsReadWhereGiven IsGridText points s.gate.grid → AreAxes needs.axes
axes_in grids s points needs read = grids points needs.axes (subst (IsReadWhereGiven IsGridText points) needs.points read)

-- what each gate on a layout has
pub record PartsAreThere : Type 0 where
  pub gate : (g : GateSettings) → HasGate g → (gate : Logic) × IsGivenGate g gate × IsLogic gate
  pub grids : GridsAreGrids
  pub site : (gate : Logic) (layout : Arrangement) → IsOn gate layout.sites ⊎ ((status : Status) × (text : List ℕ) × IsSiteAnswer gate layout status text)
  pub tiles : (placed : Placed) (p : Params) (a : Axes) (depth : ℕ) → IsLayout placed.whole → IsLogic placed.gate → IsOn placed.gate placed.whole.sites → AreAxes a → HasFarEnds a
      → (tiles : List Tile) × AreRegionTiles placed p a depth tiles

-- some status and text are the answer of a gate
abbrev HasRegion : Settings → Logic → Axes → Arrangement → Type 0
HasRegion s gate a layout = (status : Status) × (text : List ℕ) × IsRegionOfGate s gate a layout status text

module _ (parts : PartsAreThere) (s : Settings) (layout : Arrangement) (valid : IsLayout layout) where
  some_region : (gate : Logic) (a : Axes) → IsLogic gate → AreAxes a → HasFarEnds a → HasRegion s gate a layout
  some_region gate a logic are far = by (parts.site gate layout)
    where
      by : IsOn gate layout.sites ⊎ ((status : Status) × (text : List ℕ) × IsSiteAnswer gate layout status text) → HasRegion s gate a layout
      by (inl on) =
          let tiles = parts.tiles (placed_by s gate layout) s.params a s.region.refine valid logic on are far in
          (Answered, region_report s.report.json tiles.0, inl (on, (refl, record { tiles = tiles.0; of_grid = tiles.1; prints = refl })))
      by (inr (status, text, is)) = (status, text, inr is)

  pub some_answer : (points : Option Text) → HasRegionNeeds s → IsReadWhereGiven IsGridText points s.gate.grid → (status : Status) × (text : List ℕ) × IsRegionAnswer s layout status text
  some_answer points needs read =
      let found = parts.gate s.gate needs.truth.gate in
      let due = some_region found.0 needs.axes found.2 (axes_in parts.grids s points needs read) needs.far_ends in
      (due.0, due.1, record { gate = found.0; given = found.1; axes = needs.axes; points = needs.points; answers = due.2 })
