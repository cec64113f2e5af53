use Rattle.task_certificate.proofs.Checking.{some_answer}
use Rattle.task_certificate.proofs.laws.some_check_answer.Goals as goal

pub returns : goal.returns
returns c = some_answer (record {
  read = c.each_text_is_read.ensures;
  fits = c.read_texts_fit.ensures.lists;
  verdict = c.each_certificate_has_a_verdict.ensures;
  report = c.one_report.ensures.some;
})
