use Rattle.std.proofs.Common.{◌≡◌, ◌∙◌, ◌∷◌, [], ◌++◌, ap, List, ℕ}
use Rattle.serde_json.specs.View.{view}
use Rattle.serde_json.specs.Written.{compact_text, has_float}
use Rattle.region_report.specs.RegionJson.{region_data}
use Rattle.region_report.proofs.NoFloats.{region_no_float}
use Rattle.region_report.proofs.json.region_json.Goals as goal

pub returns : goal.returns
returns c =
    let built : view c.in_ok-report.report ≡ region_data c.args.tiles.now = c.in_ok-report.ensures in
    let text = c.in_ok-line.ensures.text (ap has_float built ∙ region_no_float c.args.tiles.now) ∙ ap compact_text built in
    c.in_ok-push_str.ensures.bytes ∙ ap (λ (t : List ℕ). t ++ 10 ∷ []) text
