use Rattle.operational_domain.proofs.SomeAnswer.{PartsAreThere, some_pattern}
use Rattle.operational_domain.proofs.laws.each_pattern_has_an_answer.Goals as goal

pub returns : goal.returns
returns c =
    let parts : PartsAreThere = record {
      stay = c.the_other_sites_stay.ensures;
      problem = c.each_layout_has_a_problem.ensures;
      decided = c.one_answer.ensures.decided;
      list = c.each_problem_has_a_marked_list.ensures;
      verdict = c.entries_have_a_verdict.ensures;
    } in
    λ s k valid logic on. some_pattern parts s valid logic on k
