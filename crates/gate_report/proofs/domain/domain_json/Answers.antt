use Rattle.std.proofs.Common.{◌≡◌, ◌∙◌, ◌∷◌, [], ◌++◌, ap, List, ℕ}
use Rattle.serde_json.specs.View.{view}
use Rattle.serde_json.specs.Written.{compact_text, has_float}
use Rattle.gate_report.specs.GateJson.{domain_data}
use Rattle.gate_report.proofs.NoFloats.{domain_no_float}
use Rattle.gate_report.proofs.domain.domain_json.Goals as goal

pub returns : goal.returns
returns c =
    let built : view c.in_ok-report.report ≡ domain_data c.args.cells.now = c.in_ok-report.ensures in
    let text = c.in_ok-line.ensures.text (ap has_float built ∙ domain_no_float c.args.cells.now) ∙ ap compact_text built in
    c.in_ok-push_str.ensures.bytes ∙ ap (λ (t : List ℕ). t ++ 10 ∷ []) text
