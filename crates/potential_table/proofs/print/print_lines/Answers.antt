use Rattle.std.proofs.Common.{arith}
use Rattle.potential_table.proofs.PushLemmas.{one_more_line}
use Rattle.potential_table.proofs.print.print_lines.Goals as goal

pub loop-line-preserved : goal.loop-line-preserved
loop-line-preserved c = one_more_line c.loop-line.text.items _ c.args.lines.now c.loop-line.line-index _ (omega arith) c.loop-line.invariant c.in_ok-push_line.ensures
