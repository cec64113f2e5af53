-- what a gate on a layout answers
use Rattle.std.specs.Prelude.{◌≡◌, ◌⊎◌, ℕ, Bool, true, false, List}
use Rattle.sidb_layout.specs.Layout.{Arrangement}
use Rattle.command_words.specs.declared.settings.Settings.{Settings}
use Rattle.gate_model.specs.Functions.{name_by}
use Rattle.gate_model.specs.Logic.{Logic, pattern_count}
use Rattle.bdl_pairs.specs.declared.truth.PatternAnswer.{PatternAnswer}
use Rattle.bdl_pairs.specs.Remaining.{IsOn}
use Rattle.operational_domain.specs.Patterns.{Setting}
use Rattle.operational_domain.specs.Placed.{Placed, placed_of, setting_at}
use Rattle.operational_domain.specs.Truth.{AreAnswers, IsFirstLong, IsFirstOver}
use Rattle.gate_report.specs.TruthText.{truth_text}
use Rattle.gate_report.specs.GateJson.{truth_json}
use Rattle.run_answer.specs.declared.status.Status.{Status}
use Rattle.run_answer.specs.declared.status.Status.TheVariants.{Answered}
use Rattle.run_answer.specs.Status.{IsBudgetAnswer, IsLongListAnswer}
use Rattle.task_gate.specs.GateSite.{IsSiteAnswer}

-- the gate on the layout, with the limit of the settings
abbrev pub placed_by : Settings → Logic → Arrangement → Placed
placed_by s gate layout = placed_of layout gate s.search.limit

-- what the gate is asked at by the settings
abbrev pub asked_by : Settings → Logic → Arrangement → Setting
asked_by s gate layout = setting_at (placed_by s gate layout) s.params

-- the truth table as the truth text, or as one line of JSON
abbrev pub truth_report : Bool → Logic → List PatternAnswer → List ℕ
truth_report false gate t = truth_text (name_by gate.function) gate t
truth_report true gate t = truth_json (name_by gate.function) t

-- the report of the answers to all patterns, by the parameters of the settings
pub record IsTruthReport (s : Settings) (v : Placed) (text : List ℕ) : Type 0 where
  pub table : List PatternAnswer
  pub answers : AreAnswers (setting_at v s.params) (pattern_count v.gate) table
  pub prints : text ≡ truth_report s.report.json v.gate table

-- that report, or the line that says why the first pattern without a list has none
abbrev pub IsTruthOutcome : Settings → Placed → Status → List ℕ → Type 0
IsTruthOutcome s v status text =
    ((status ≡ Answered) × IsTruthReport s v text)
    ⊎ ((IsFirstOver (setting_at v s.params) × IsBudgetAnswer v.limit status text)
    ⊎ (IsFirstLong (setting_at v s.params) × IsLongListAnswer status text))

-- that, where all places of the gate are sites; else the line that names the first which is none
abbrev pub IsTruthOfGate : Settings → Logic → Arrangement → Status → List ℕ → Type 0
IsTruthOfGate s gate layout status text =
    (IsOn gate layout.sites × IsTruthOutcome s (placed_by s gate layout) status text)
    ⊎ IsSiteAnswer gate layout status text
