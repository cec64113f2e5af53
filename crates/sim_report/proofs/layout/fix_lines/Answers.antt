use Rattle.std.proofs.Common.{◌∙◌, arith}
use Rattle.sim_report.specs.GroundText.{fix_row}
use Rattle.sim_report.proofs.Numbered.{one_more_numbered, all_numbered}
use Rattle.sim_report.proofs.layout.fix_lines.Goals as goal

pub loop-a-preserved : goal.loop-a-preserved
loop-a-preserved c =
    one_more_numbered fix_row c.args.layout.now.fixes c.loop-a.a c.fix.result _ _ _ c.fix.ensures.value c.loop-a.invariant (c.deref.ensures ∙ c.in_ok-line.ensures) c.in_ok-push_row.ensures

pub returns : goal.returns
returns c = all_numbered fix_row c.args.layout.now.fixes c.loop-a.a _ (omega arith) c.loop-a.invariant
