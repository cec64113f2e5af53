use Rattle.region_tiles.proofs.CodeLemmas.{steps_more}
use Rattle.region_tiles.proofs.sides.steps_of.Goals as goal

pub loop-k-preserved : goal.loop-k-preserved
loop-k-preserved c =
    steps_more c.args.axis.now c.natural-start.result c.natural-step.result c.loop-k.k c.loop-k.steps.items c.push.new.self.items c.step_from.result
    c.natural-start.ensures c.natural-step.ensures c.loop-k.invariant c.step_from.ensures c.in_ok-push.ensures.items
