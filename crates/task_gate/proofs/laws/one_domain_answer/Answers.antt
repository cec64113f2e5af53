use Rattle.task_gate.proofs.OneAnswer.{PartsAreOne}
use Rattle.task_gate.proofs.Given.{one_domain}
use Rattle.task_gate.proofs.laws.one_domain_answer.Goals as goal

pub returns : goal.returns
returns c =
    let parts : PartsAreOne = record {
      table = c.one_table.ensures.table;
      not_over = c.one_table.ensures.not_over;
      not_long = c.one_table.ensures.not_long;
      over_or_long = c.one_table.ensures.over_or_long;
      cells = c.one_cell.ensures.cells;
    } in
    λ s layout a b t u valid. one_domain parts s layout valid a b t u
