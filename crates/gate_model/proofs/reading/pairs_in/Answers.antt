use Rattle.std.proofs.Common.{arith}
use Rattle.gate_model.proofs.PairLemmas.{all_pairs, no_pairs, one_more_part}
use Rattle.gate_model.proofs.reading.pairs_in.Goals as goal

pub returns-in_default-clause-none : goal.returns-in_default-clause-none
returns-in_default-clause-none c = no_pairs c.args.parts.now c.loop-k.k _ (omega arith) c.in_default.ensures.none

pub loop-k-preserved : goal.loop-k-preserved
loop-k-preserved c = rw c.in_ok-push.ensures.ok (one_more_part c.args.parts.now c.loop-k.pairs c.loop-k.k _ c.in-Some.pair (omega arith) c.loop-k.invariant c.in-Some.ensures.found)

pub returns-clause-found : goal.returns-clause-found
returns-clause-found c = all_pairs c.args.parts.now c.loop-k.pairs c.loop-k.k (omega arith) c.loop-k.invariant
