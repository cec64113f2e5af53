use Rattle.std.proofs.Common.{arith}
use Rattle.gate_report.proofs.Behind.{all_done, one_more, patterns_due, pattern_ends, pattern_part, pattern_steps}
use Rattle.gate_report.proofs.truth_lines.pattern_lines.Goals as goal

pub loop-k-preserved : goal.loop-k-preserved
loop-k-preserved c = one_more patterns_due pattern_part pattern_steps pattern_ends c.args.truth.now c.loop-k.k c.at.result.now _ _ _ c.at.ensures c.loop-k.invariant c.in_ok-push_pattern.ensures

pub returns : goal.returns
returns c = all_done patterns_due pattern_part pattern_steps pattern_ends c.args.truth.now c.loop-k.k _ _ (omega arith) c.loop-k.invariant
