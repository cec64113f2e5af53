-- what a gate on a layout answers over a grid
use Rattle.std.specs.Prelude.{◌≡◌, ◌⊎◌, ℕ, Bool, true, false, List}
use Rattle.sidb_layout.specs.Layout.{Arrangement}
use Rattle.command_words.specs.declared.settings.Settings.{Settings}
use Rattle.gate_model.specs.Grids.{Axes}
use Rattle.gate_model.specs.Logic.{Logic}
use Rattle.bdl_pairs.specs.declared.cell.Cell.{Cell}
use Rattle.bdl_pairs.specs.Remaining.{IsOn}
use Rattle.operational_domain.specs.Placed.{Placed}
use Rattle.operational_domain.specs.Domain.{AreCells}
use Rattle.gate_report.specs.DomainText.{domain_text}
use Rattle.gate_report.specs.GateJson.{domain_json}
use Rattle.run_answer.specs.declared.status.Status.{Status}
use Rattle.run_answer.specs.declared.status.Status.TheVariants.{Answered}
use Rattle.task_gate.specs.GateSite.{IsSiteAnswer}
use Rattle.task_gate.specs.TruthAnswer.{placed_by}

-- the cells as the domain text, or as one line of JSON
abbrev pub domain_report : Bool → List Cell → List ℕ
domain_report false cells = domain_text cells
domain_report true cells = domain_json cells

-- the report of the cells of the grid, all but permittivity and screening length by the settings
pub record IsDomainReport (s : Settings) (v : Placed) (a : Axes) (text : List ℕ) : Type 0 where
  pub cells : List Cell
  pub of_grid : AreCells v s.params a cells
  pub prints : text ≡ domain_report s.report.json cells

-- that report: there is no other outcome
abbrev pub IsDomainOutcome : Settings → Placed → Axes → Status → List ℕ → Type 0
IsDomainOutcome s v a status text = (status ≡ Answered) × IsDomainReport s v a text

-- that, where all places of the gate are sites; else the line that names the first which is none
abbrev pub IsDomainOfGate : Settings → Logic → Axes → Arrangement → Status → List ℕ → Type 0
IsDomainOfGate s gate a layout status text =
    (IsOn gate layout.sites × IsDomainOutcome s (placed_by s gate layout) a status text)
    ⊎ IsSiteAnswer gate layout status text
