use Rattle.task_input.proofs.OneInput.{same_input}
use Rattle.task_input.proofs.laws.one_input.Goals as goal

pub returns : goal.returns
returns c = same_input (record {
  layout = c.one_layout.ensures;
  drawn = c.one_drawn_layout.ensures;
  problem = c.one_problem.ensures;
  table = c.one_problem-2.ensures;
})
