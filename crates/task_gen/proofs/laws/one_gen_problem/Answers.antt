use Rattle.task_gen.proofs.OneProblem.{same_problem}
use Rattle.task_gen.proofs.laws.one_gen_problem.Goals as goal

pub returns : goal.returns
returns c = same_problem c.one_layout.ensures c.one_problem.ensures
