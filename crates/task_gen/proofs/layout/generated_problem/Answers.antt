use Rattle.task_gen.proofs.Dues.{problem_of}
use Rattle.task_gen.proofs.layout.generated_problem.Goals as goal

pub returns : goal.returns
returns c = problem_of c.args.settings.now c.in_ok-layout.layout c.problem.result c.in_ok-layout.ensures c.problem.ensures.value c.problem.ensures.holds
