use Rattle.task_certificate.proofs.Checking.{same_answer}
use Rattle.task_certificate.proofs.laws.one_check_answer.Goals as goal

pub returns : goal.returns
returns c = same_answer (record {
  text = c.one_certificate.ensures;
  fault = c.one_fault.ensures;
  no_fault = c.no_fault.ensures;
  refusal = c.certificates_have_one_verdict.ensures.one;
  apart = c.certificates_have_one_verdict.ensures.apart;
  report = c.one_report.ensures.one;
})
