use Rattle.task_gate.proofs.OneAnswer.{on_or_outside, same_site}
use Rattle.task_gate.proofs.SomeAnswer.{on_or_answer}
use Rattle.task_gate.proofs.laws.one_site_answer.Goals as goal

pub returns : goal.returns
returns c = record {
  one = same_site;
  not_on = λ gate layout status text on is. on_or_outside gate layout.sites is.place on is.site;
  some = on_or_answer;
}
