use Rattle.task_certificate.proofs.Certifying.{tells}
use Rattle.task_certificate.proofs.laws.certify_answers_tell.Goals as goal

pub returns : goal.returns
returns c = tells (record {
  reads = c.own_certificates_are_read_back.ensures.reads;
  sound = c.own_certificates_are_sound.ensures;
})
