use Rattle.operational_domain.proofs.SomeAnswer.{PartsAreThere, some_cell_answer, some_cells}
use Rattle.operational_domain.proofs.laws.some_cell.Goals as goal

pub returns-clause-answer : goal.returns-clause-answer
returns-clause-answer c =
    let parts : PartsAreThere = record {
      stay = c.the_other_sites_stay.ensures;
      problem = c.each_layout_has_a_problem.ensures;
      decided = c.one_answer.ensures.decided;
      list = c.each_problem_has_a_marked_list.ensures;
      verdict = c.entries_have_a_verdict.ensures;
    } in
    λ s valid logic on. some_cell_answer parts s valid logic on

pub returns-clause-cells : goal.returns-clause-cells
returns-clause-cells c =
    let parts : PartsAreThere = record {
      stay = c.the_other_sites_stay.ensures;
      problem = c.each_layout_has_a_problem.ensures;
      decided = c.one_answer.ensures.decided;
      list = c.each_problem_has_a_marked_list.ensures;
      verdict = c.entries_have_a_verdict.ensures;
    } in
    λ placed p a valid logic on are. some_cells parts placed p a valid logic on are
