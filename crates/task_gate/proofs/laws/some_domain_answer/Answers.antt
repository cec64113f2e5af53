use Rattle.task_gate.proofs.SomeAnswer.{PartsAreThere}
use Rattle.task_gate.proofs.Given.{some_domain_answer}
use Rattle.task_gate.proofs.laws.some_domain_answer.Goals as goal

pub returns : goal.returns
returns c =
    let parts : PartsAreThere = record { table = c.each_gate_has_a_table.ensures; cells = c.some_cell.ensures.cells } in
    λ s points layout valid needs read. some_domain_answer parts s layout valid points needs read
