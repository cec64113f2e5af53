use Rattle.task_gen.proofs.SomeAnswer.{some_answer}
use Rattle.task_gen.proofs.laws.some_gen_answer.Goals as goal

pub returns : goal.returns
returns c = some_answer (record {
  decided = c.one_answer.ensures.decided;
  list = c.each_problem_has_a_marked_list.ensures;
}) c.some_gen_problem.ensures
