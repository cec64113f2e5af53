use Rattle.std.proofs.lemmas.Result.{IfOk-weaker}
use Rattle.run_answer.specs.Due.{DueIs}
use Rattle.run_answer.specs.Status.{IsUnsoundAnswer}
use Rattle.task_certificate.specs.CheckAnswer.{IsReportAnswer}
use Rattle.task_certificate.proofs.Checking.{entries_are_of, sound_verdict, unsound_verdict}
use Rattle.task_certificate.proofs.Checked.{front_fits}
use Rattle.task_certificate.proofs.check.verdict_due.Goals as goal

pub report_due-requires : goal.report_due-requires
report_due-requires c = entries_are_of _ _ (front_fits c.read_texts_fit.ensures.lists c.args.text.now c.args.front.now c.requires)

pub returns-in-Ok : goal.returns-in-Ok
returns-in-Ok c =
    let s = c.args.settings.now in
    let front = c.args.front.now in
    IfOk-weaker _ (DueIs (IsReportAnswer s front.problem front.list)) _
    (λ due is tokens of. sound_verdict s front.problem front.list tokens (c.in-Ok.ensures.sound tokens of) due is) c.report_due.ensures

pub returns-in-Err : goal.returns-in-Err
returns-in-Err c =
    let s = c.args.settings.now in
    let front = c.args.front.now in
    IfOk-weaker _ (DueIs (IsUnsoundAnswer c.in-Err.refusal)) _
    (λ due is tokens of. unsound_verdict s front.problem front.list tokens c.in-Err.refusal (c.in-Err.ensures.refused tokens of) due is) c.refusal_due.ensures
