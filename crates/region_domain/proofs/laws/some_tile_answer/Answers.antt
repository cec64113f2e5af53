use Rattle.region_domain.proofs.SomeTile.{PartsAreThere, some_tile_answer}
use Rattle.region_domain.proofs.laws.some_tile_answer.Goals as goal

pub returns : goal.returns
returns c =
    let parts : PartsAreThere = record {
      leaves = c.each_pattern_leaves_a_layout.ensures;
      problem = c.each_layout_has_a_region_problem.ensures;
      decided = c.one_answer.ensures.decided;
      list = c.each_problem_has_a_marked_list.ensures;
      verdict = c.entries_have_a_verdict.ensures;
    } in
    λ placed r valid logic on. some_tile_answer parts placed r valid logic on
