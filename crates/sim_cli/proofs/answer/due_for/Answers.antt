use Rattle.std.proofs.Common.{◌⊎◌, subst, sym}
use Rattle.fault_lines.specs.declared.input_fault.InputFault.TheVariants.{TooLong}
use Rattle.run_answer.specs.Status.{IsFaultAnswer}
use Rattle.task_certificate.specs.declared.delivery.Delivery.TheVariants.{Text}
use Rattle.task_certificate.specs.Delivery.{DeliveryIs}
use Rattle.sim_cli.specs.declared.reading.Reading.{Reading as Read}
use Rattle.sim_cli.specs.Reading.{IsToTheEnd}
use Rattle.sim_cli.proofs.Answering.{end_of_refused}
use Rattle.sim_cli.proofs.answer.due_for.Goals as goal

pub returns-in_ok-fault_due-in-Refused-clause-end : goal.returns-in_ok-fault_due-in-Refused-clause-end
returns-in_ok-fault_due-in-Refused-clause-end g c =
    let due = c.in_ok-fault_due-in-Refused.field-0 in
    λ reads. subst (λ (r : Read). IsToTheEnd r ⊎ DeliveryIs (IsFaultAnswer TooLong) (Text due)) (sym c.in-Refused.is) (end_of_refused c.in-Refused.fault due c.in_ok-fault_due-in-Refused.ensures)
