use Rattle.operational_domain.proofs.OnePattern.{PartsAreOne}
use Rattle.operational_domain.proofs.OneCell.{same_cell_answer, same_cells}
use Rattle.operational_domain.proofs.laws.one_cell.Goals as goal

pub returns-clause-answer : goal.returns-clause-answer
returns-clause-answer c =
    let parts : PartsAreOne = record {
      problem = c.one_problem.ensures;
      list = c.one_answer.ensures.list;
      length = c.one_answer.ensures.length;
      budget = c.one_answer.ensures.budget;
      verdict = c.entries_have_one_verdict.ensures;
    } in
    λ s a b valid. same_cell_answer parts s valid a b

pub returns-clause-cells : goal.returns-clause-cells
returns-clause-cells c =
    let parts : PartsAreOne = record {
      problem = c.one_problem.ensures;
      list = c.one_answer.ensures.list;
      length = c.one_answer.ensures.length;
      budget = c.one_answer.ensures.budget;
      verdict = c.entries_have_one_verdict.ensures;
    } in
    λ placed p a xs ys valid. same_cells parts placed valid p a xs ys
