use Rattle.std.proofs.Common.{arith}
use Rattle.prefix_extremes.proofs.Flagged.{flags_more, flags_whole}
use Rattle.prefix_extremes.proofs.flags.flags_of.Goals as goal

pub loop-k-init : goal.loop-k-init
loop-k-init c = record { full = c.no_flags-flags.ensures.full; written = λ k h. absurd (omega (arith, h)) }

pub loop-k-preserved : goal.loop-k-preserved
loop-k-preserved c = flags_more c.args.problem.now c.loop-k.k c.loop-k.flags c.may_be_positive.result (omega arith) c.loop-k.invariant c.may_be_positive.ensures

pub returns : goal.returns
returns c = flags_whole c.args.problem.now c.loop-k.k c.args.problem.now.sites c.loop-k.flags (omega arith) c.loop-k.invariant
