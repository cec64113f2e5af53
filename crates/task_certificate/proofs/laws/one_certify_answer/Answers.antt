use Rattle.task_certificate.proofs.Certifying.{same_answer}
use Rattle.task_certificate.proofs.laws.one_certify_answer.Goals as goal

pub returns : goal.returns
returns c = same_answer (record {
  own = c.one_own_certificate.ensures;
  length = c.one_answer.ensures.length;
  budget = c.one_answer.ensures.budget;
})
