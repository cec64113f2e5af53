-- what the reports of gates tell, whatever the potentials are inside their spans
use Rattle.std.specs.Prelude.{◌≡◌, ℕ, ◌<◌, ◌*◌, List, length, slice_index_or}
use Rattle.sidb_layout.specs.Layout.{Arrangement}
use Rattle.model_params.specs.declared.params.Params.{Params}
use Rattle.command_words.specs.declared.settings.Settings.{Settings}
use Rattle.gate_model.specs.Grids.{Axes}
use Rattle.gate_model.specs.Logic.{Logic, pattern_count}
use Rattle.bdl_pairs.specs.declared.verdicts.PatternVerdict.TheVariants.{Works as PatternWorks, Fails as PatternFails}
use Rattle.bdl_pairs.specs.declared.truth.PatternAnswer.{PatternAnswer}
use Rattle.bdl_pairs.specs.declared.cell.Cell.{Cell}
use Rattle.bdl_pairs.specs.declared.cell.CellAnswer.TheVariants.{Works, Fails}
use Rattle.operational_domain.specs.Patterns.{Setting}
use Rattle.operational_domain.specs.Placed.{setting_at}
use Rattle.operational_domain.specs.Points.{IsPoint}
use Rattle.operational_domain.specs.Promises.{MissesAlways, ReadsAlways}
use Rattle.gate_report.specs.Answers.{overall}
use Rattle.task_gate.specs.TruthAnswer.{asked_by, placed_by, truth_report}
use Rattle.task_gate.specs.DomainAnswer.{domain_report}

-- where the pattern works, under every table it has a ground state, and each reads the wanted bits;
-- where it fails, under every table some ground state does not
pub record PatternHolds (s : Setting) (k : ℕ) (a : PatternAnswer) : Type 0 where
  pub works : a.verdict ≡ PatternWorks → ReadsAlways s k
  pub fails : a.verdict ≡ PatternFails → MissesAlways s k

-- the text is the report of a table each of whose patterns holds. Where it says that the gate works,
-- each pattern reads its bits; where it says that the gate fails at a pattern, that one does not
pub record TellsTruthOfGate (s : Settings) (gate : Logic) (layout : Arrangement) (text : List ℕ)
    : Type 0 where
  pub table : List PatternAnswer
  pub count : length table ≡ pattern_count gate
  pub prints : text ≡ truth_report s.report.json gate table
  pub holds : (k : ℕ) → k < pattern_count gate → (a : PatternAnswer)
      × (slice_index_or table k a ≡ a) × PatternHolds (asked_by s gate layout) k a
  pub works : overall 0 table ≡ Works → (k : ℕ) → k < pattern_count gate
      → ReadsAlways (asked_by s gate layout) k
  pub fails : (k : ℕ) → overall 0 table ≡ Fails k → MissesAlways (asked_by s gate layout) k

-- at its point: where the gate works, each pattern reads its bits; where it fails, one does not
pub record CellHolds (s : Settings) (gate : Logic) (a : Axes) (layout : Arrangement) (k : ℕ)
    (cell : Cell) : Type 0 where
  pub point : Params
  pub of_grid : IsPoint s.params a k point
  pub works : cell.answer ≡ Works → (j : ℕ) → j < pattern_count gate
      → ReadsAlways (setting_at (placed_by s gate layout) point) j
  pub fails : (j : ℕ) → cell.answer ≡ Fails j
      → MissesAlways (setting_at (placed_by s gate layout) point) j

-- the text is the report of cells each of which holds
pub record TellsDomainOfGate (s : Settings) (gate : Logic) (a : Axes) (layout : Arrangement)
    (text : List ℕ) : Type 0 where
  pub cells : List Cell
  pub count : length cells ≡ a.eps.count * a.lam.count
  pub prints : text ≡ domain_report s.report.json cells
  pub holds : (k : ℕ) → k < a.eps.count * a.lam.count → (cell : Cell)
      × (slice_index_or cells k cell ≡ cell) × CellHolds s gate a layout k cell
