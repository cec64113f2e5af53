use Rattle.task_gate.proofs.SomeAnswer.{PartsAreThere}
use Rattle.task_gate.proofs.Given.{some_truth_answer}
use Rattle.task_gate.proofs.laws.some_truth_answer.Goals as goal

pub returns : goal.returns
returns c =
    let parts : PartsAreThere = record { table = c.each_gate_has_a_table.ensures; cells = c.some_cell.ensures.cells } in
    λ s layout valid needs. some_truth_answer parts s layout valid needs
