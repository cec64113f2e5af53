use Rattle.std.proofs.Common.{arith, take}
use Rattle.gate_model.specs.Logic.{places_in}
use Rattle.gate_model.proofs.GateLemmas.{both_added, places_more}
use Rattle.gate_model.proofs.gate.push_places.Goals as goal

pub loop-k-preserved : goal.loop-k-preserved
loop-k-preserved c = both_added c.args.places.now.items (places_in (take c.loop-k.k c.args.pairs.now)) _ _ _ _ _ _ c.loop-k.invariant c.in_ok-push.ensures.items c.in_ok-push-2.ensures.items (places_more c.args.pairs.now c.loop-k.k _ (omega arith))
