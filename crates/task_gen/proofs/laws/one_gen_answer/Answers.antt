use Rattle.task_gen.proofs.OneAnswer.{same_answer}
use Rattle.task_gen.proofs.laws.one_gen_answer.Goals as goal

pub returns : goal.returns
returns c = same_answer (record {
  problem = c.one_gen_problem.ensures;
  list = c.one_answer.ensures.list;
  not_long = c.one_answer.ensures.length;
  budget = c.one_answer.ensures.budget;
  listed = c.solutions_are_listed.ensures;
  bound = c.one_least_certain.ensures;
})
