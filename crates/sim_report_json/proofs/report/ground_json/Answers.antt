use Rattle.std.proofs.Common.{◌≡◌, ◌∙◌, ◌∷◌, [], ◌++◌, ap, List, ℕ, map}
use Rattle.serde_json.specs.View.{view}
use Rattle.serde_json.specs.Written.{compact_text, has_float}
use Rattle.sim_report_json.specs.GroundJson.{report_data}
use Rattle.sim_report_json.proofs.NoFloats.{report_no_float}
use Rattle.sim_report_json.proofs.report.ground_json.Goals as goal

pub returns : goal.returns
returns c =
    let entries = map view c.in_ok-entries.entries.items in
    let built : view c.in_ok-report.report ≡ report_data c.args.about.now entries = c.in_ok-report.ensures in
    let none = report_no_float c.args.about.now c.args.problem.now c.args.list.now c.args.energies entries c.in_ok-entries.ensures in
    let text = c.in_ok-line.ensures.text (ap has_float built ∙ none) ∙ ap compact_text built in
    record { text = record { entries = entries; of_list = c.in_ok-entries.ensures; prints = c.in_ok-push_str.ensures.bytes ∙ ap (λ (t : List ℕ). t ++ 10 ∷ []) text } }
