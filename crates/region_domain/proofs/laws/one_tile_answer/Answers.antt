use Rattle.region_domain.proofs.OneTile.{PartsAreOne, same_tile_answer}
use Rattle.region_domain.proofs.laws.one_tile_answer.Goals as goal

pub returns : goal.returns
returns c =
    let parts : PartsAreOne = record {
      left = c.one_remaining.ensures;
      problem = c.one_region_problem.ensures;
      list = c.one_answer.ensures.list;
      length = c.one_answer.ensures.length;
      budget = c.one_answer.ensures.budget;
      verdict = c.entries_have_one_verdict.ensures;
    } in
    λ placed r a b valid. same_tile_answer parts placed valid r a b
