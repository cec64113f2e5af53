use Rattle.std.proofs.Common.{arith, subst}
use Rattle.region_domain.specs.Tiles.{IsTileOutcome}
use Rattle.region_domain.proofs.FirstReason.{one_more, reason_answers}
use Rattle.region_domain.proofs.answers.tile_answer.Goals as goal

pub returns-in-Some : goal.returns-in-Some
returns-in-Some g c =
    let placed = c.args.placed.now in
    let r = c.args.rectangle.now in
    let outcome = c.in_ok-reason.ensures.outcome placed r c.found_on-found.ensures in
    let few = c.patterns-k-end.ensures.value in
    reason_answers placed r c.in-Some.answer c.loop-k.k (omega (arith, few)) (subst (IsTileOutcome placed r c.loop-k.k) c.in-Some.is outcome) c.loop-k.invariant

pub loop-k-preserved : goal.loop-k-preserved
loop-k-preserved g c =
    let placed = c.args.placed.now in
    let r = c.args.rectangle.now in
    let outcome = c.in_ok-reason.ensures.outcome placed r c.found_on-found.ensures in
    one_more placed r c.loop-k.k c.loop-k.invariant (subst (IsTileOutcome placed r c.loop-k.k) c.in-None.is outcome)
