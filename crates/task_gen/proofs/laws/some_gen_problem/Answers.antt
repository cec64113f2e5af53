use Rattle.task_gen.proofs.SomeAnswer.{some_problem}
use Rattle.task_gen.proofs.laws.some_gen_problem.Goals as goal

pub returns : goal.returns
returns c = some_problem (record {
  layout = c.generated_sites_make_a_layout.ensures;
  problem = c.each_layout_has_a_problem.ensures;
})
