use Rattle.std.proofs.Common.{sym, ◌∙◌}
use Rattle.level_candidates.proofs.Raised.{may_at_level}
use Rattle.level_candidates.proofs.plan.may_at_last.Goals as goal

pub returns-then-base-eq3 : goal.returns-then-base-eq3
returns-then-base-eq3 c = may_at_level c.args.problem.now c.args._levels.last c.args.track.now.prefix c.args.k c.potential.result.least.value c.args.limits.positive.value c.is_at_most.result
    (sym c.base.ensures.value ∙ c.if-base-eq3.true) c.requires.empty c.potential.ensures.least c.requires.limits.positive c.is_at_most.ensures
