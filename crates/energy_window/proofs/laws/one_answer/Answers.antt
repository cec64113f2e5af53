use Rattle.energy_window.proofs.OneAnswer.{one}
use Rattle.energy_window.proofs.laws.one_answer.Goals as goal

pub returns : goal.returns
returns c = λ p window limit. one p window limit (record {
  one = c.one_window_answer.ensures.list p window limit;
  length = c.one_window_answer.ensures.length p window limit;
  budget = c.one_window_answer.ensures.budget p window limit;
})
