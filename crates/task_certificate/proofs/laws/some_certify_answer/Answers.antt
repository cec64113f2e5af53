use Rattle.task_certificate.proofs.Certifying.{some_answer}
use Rattle.task_certificate.proofs.laws.some_certify_answer.Goals as goal

pub returns : goal.returns
returns c = some_answer (record {
  ground = c.some_ground_answer.ensures;
  tokens = c.ground_lists_have_written_tokens.ensures.written;
})
