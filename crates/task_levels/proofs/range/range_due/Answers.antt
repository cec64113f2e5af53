use Rattle.task_levels.proofs.RangeDue.{due_of_range}
use Rattle.task_levels.proofs.range.range_due.Goals as goal

pub returns : goal.returns
returns c = due_of_range c.args.settings.now c.args.problem.now c.in-Some.range c.in-Some.is c.due_between.result c.due_between.ensures
