use Rattle.task_gate.proofs.Dues.{long_due, over_due}
use Rattle.task_gate.proofs.truth.placed_answer.Goals as goal

pub returns-in-Budget : goal.returns-in-Budget
returns-in-Budget g c = over_due c.args.settings.now c.args.placed.now c.limit.result c.budget_due.result c.limit.ensures.value c.in-Budget.ensures c.budget_due.ensures

pub returns-in-ListTooLong : goal.returns-in-ListTooLong
returns-in-ListTooLong g c = long_due c.args.settings.now c.args.placed.now c.long_list_due.result c.in-ListTooLong.ensures c.long_list_due.ensures
