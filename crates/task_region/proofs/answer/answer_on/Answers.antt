use Rattle.std.proofs.Common.{subst, IfOk}
use Rattle.operational_domain.specs.Placed.{Placed}
use Rattle.run_answer.specs.Due.{DueIs}
use Rattle.task_region.specs.RegionAnswer.{IsRegionOutcome}
use Rattle.task_region.proofs.answer.answer_on.Goals as goal

pub returns : goal.returns
returns g c = subst (λ (v : Placed). IfOk c.placed_answer.result (DueIs (IsRegionOutcome c.args.settings.now v c.args.grid.now))) c.in_ok-placed.ensures c.placed_answer.ensures
