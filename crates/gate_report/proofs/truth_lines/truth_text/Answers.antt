use Rattle.std.proofs.Common.{◌∙◌}
use Rattle.gate_report.specs.TruthText.{pattern_rows, truth_title_rows, verdict_rows}
use Rattle.gate_report.proofs.Behind.{three_parts}
use Rattle.gate_report.proofs.truth_lines.truth_text.Goals as goal

pub returns : goal.returns
returns c =
    three_parts (truth_title_rows c.args.name.now c.args.gate.now) (pattern_rows 0 c.args.truth.now) (verdict_rows c.args.truth.now) _ _ _ _ _ c.in_ok-text.ensures (c.deref.ensures ∙ c.in_ok-patterns.ensures) (c.deref-2.ensures ∙ c.in_ok-verdict.ensures) c.in_ok-push_str.ensures.bytes c.in_ok-push_str-2.ensures.bytes
