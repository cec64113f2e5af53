use Rattle.std.proofs.Common.{ap, arith}
use Rattle.std.proofs.lemmas.Int.{ints}
use Rattle.level_candidates.specs.Plans.{raise_of}
use Rattle.level_candidates.proofs.Raised.{greatest_raised}
use Rattle.level_candidates.proofs.openness.extremes_in.Goals as goal

pub returns : goal.returns
returns c =
    let p = c.args.problem.now in
    let last = c.args.plan.now.levels.last in
    let raised = greatest_raised p last c.args.track.now.prefix c.args.k in
    let depth = ap (λ d. raise_of p last d c.args.k) c.len.ensures.len in
    record {
      least = c.potential-own.ensures.least;
      greatest = omega (arith, ints, raised, depth, c.potential-own.ensures.greatest, c.raise_in-raise.ensures.value, c.added.ensures);
    }
