use Rattle.std.proofs.Common.{arith}
use Rattle.range_report.proofs.Behind.{one_more_part, all_parts}
use Rattle.range_report.proofs.parts.part_lines.Goals as goal

pub loop-k-preserved : goal.loop-k-preserved
loop-k-preserved c = one_more_part c.args.parts.now c.loop-k.k _ _ _ (omega arith) c.loop-k.invariant c.in_ok-push_part.ensures

pub returns : goal.returns
returns c = all_parts c.args.parts.now c.loop-k.k _ _ (omega arith) c.loop-k.invariant
