use Rattle.task_region.proofs.OneAnswer.{PartsAreOne, one_region}
use Rattle.task_region.proofs.laws.one_region_answer.Goals as goal

pub returns : goal.returns
returns c =
    let parts : PartsAreOne = record {
      gate = c.one_given_gate.ensures.one;
      site = c.one_site_answer.ensures.one;
      not_on = c.one_site_answer.ensures.not_on;
      tiles = c.one_region.ensures;
    } in
    λ s layout a b t u valid. one_region parts s layout valid a b t u
