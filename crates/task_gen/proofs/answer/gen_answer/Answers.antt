use Rattle.task_gen.proofs.Dues.{long_due, over_due}
use Rattle.task_gen.proofs.answer.gen_answer.Goals as goal

pub returns-in-Budget : goal.returns-in-Budget
returns-in-Budget g c = over_due c.args.settings.now c.in_ok-problem.problem c.budget_due.result c.in_ok-problem.ensures c.in-Budget.ensures.answer c.budget_due.ensures

pub returns-in-ListTooLong : goal.returns-in-ListTooLong
returns-in-ListTooLong g c = long_due c.args.settings.now c.in_ok-problem.problem c.long_list_due.result c.in_ok-problem.ensures c.in-ListTooLong.ensures.answer c.long_list_due.ensures
