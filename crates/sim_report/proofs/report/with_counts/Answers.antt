use Rattle.std.proofs.Common.{◌∙◌}
use Rattle.sim_report.specs.GroundText.{layout_rows, count_rows}
use Rattle.sim_report.proofs.RowLemmas.{three_parts}
use Rattle.sim_report.proofs.report.with_counts.Goals as goal

pub returns : goal.returns
returns c rows titled =
    three_parts rows (layout_rows c.args.about.now.layout) (count_rows c.args.about.now c.args.entries) _ _ _ _ _ titled (c.deref.ensures ∙ c.in_ok-layout.ensures) (c.deref-2.ensures ∙ c.in_ok-counts.ensures) c.in_ok-push_str.ensures.bytes c.in_ok-push_str-2.ensures.bytes
