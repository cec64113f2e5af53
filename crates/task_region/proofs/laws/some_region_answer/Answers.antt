use Rattle.task_region.proofs.SomeAnswer.{PartsAreThere, some_answer}
use Rattle.task_region.proofs.laws.some_region_answer.Goals as goal

pub returns : goal.returns
returns c =
    let parts : PartsAreThere = record {
      gate = c.one_given_gate.ensures.some;
      grids = c.given_grids_are_grids.ensures;
      site = c.one_site_answer.ensures.some;
      tiles = c.some_region.ensures;
    } in
    λ s points layout valid needs read. some_answer parts s layout valid points needs read
