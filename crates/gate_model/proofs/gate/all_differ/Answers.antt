use Rattle.std.proofs.Common.{arith, below_more}
use Rattle.gate_model.proofs.GateLemmas.{all_differ_below, not_all_differ}
use Rattle.gate_model.proofs.gate.all_differ.Goals as goal

pub returns-then-stands_before : goal.returns-then-stands_before
returns-then-stands_before c = not_all_differ c.args.places.now c.loop-j.j (omega arith) c.if-stands_before.ensures

pub loop-j-preserved : goal.loop-j-preserved
loop-j-preserved c = below_more _ _ c.loop-j.invariant c.if-stands_before.ensures

pub returns : goal.returns
returns c = all_differ_below c.args.places.now (λ j lt. c.loop-j.invariant j (omega arith))
