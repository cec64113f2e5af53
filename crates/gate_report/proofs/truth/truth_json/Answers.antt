use Rattle.std.proofs.Common.{◌≡◌, ◌∙◌, ◌∷◌, [], ◌++◌, ap, List, ℕ}
use Rattle.serde_json.specs.View.{view}
use Rattle.serde_json.specs.Written.{compact_text, has_float}
use Rattle.gate_report.specs.GateJson.{truth_data}
use Rattle.gate_report.proofs.NoFloats.{truth_no_float}
use Rattle.gate_report.proofs.truth.truth_json.Goals as goal

pub returns : goal.returns
returns c =
    let built : view c.in_ok-report.report ≡ truth_data c.args.name.now c.args.truth.now = c.in_ok-report.ensures in
    let none = truth_no_float c.entries_have_no_floats.ensures c.args.name.now c.args.truth.now in
    let text = c.in_ok-line.ensures.text (ap has_float built ∙ none) ∙ ap compact_text built in
    c.in_ok-push_str.ensures.bytes ∙ ap (λ (t : List ℕ). t ++ 10 ∷ []) text
