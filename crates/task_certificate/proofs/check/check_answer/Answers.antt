use Rattle.std.proofs.Common.{arith}
use Rattle.std.proofs.lemmas.Result.{IfOk-weaker}
use Rattle.fault_lines.specs.declared.input_fault.InputFault.TheVariants.{Text}
use Rattle.run_answer.specs.Due.{DueIs}
use Rattle.run_answer.specs.Status.{IsFaultAnswer}
use Rattle.task_certificate.specs.CheckAnswer.{IsCheckAnswer}
use Rattle.task_certificate.proofs.Checking.{certificate_due, text_fault_due}
use Rattle.task_certificate.proofs.check.check_answer.Goals as goal

pub returns-in-Err : goal.returns-in-Err
returns-in-Err c =
    IfOk-weaker _ (DueIs (IsFaultAnswer (Text c.in-Err.fault))) (DueIs (IsCheckAnswer c.args.settings.now c.args.text.now))
    (text_fault_due c.args.settings.now c.args.text.now c.in-Err.fault (omega arith) c.in-Err.ensures.fault) c.fault_due-in-Err.ensures

pub returns-in-Ok : goal.returns-in-Ok
returns-in-Ok c =
    IfOk-weaker _ _ (DueIs (IsCheckAnswer c.args.settings.now c.args.text.now))
    (certificate_due c.args.settings.now c.args.text.now c.in-Ok.front (omega arith) c.in-Ok.ensures.found) c.verdict_due.ensures
