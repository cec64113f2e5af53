use Rattle.task_region.proofs.Told.{RegionsHold, told_region}
use Rattle.task_region.proofs.laws.region_answers_tell.Goals as goal

pub returns : goal.returns
returns c =
    let laws : RegionsHold = record {
      grids = c.given_grids_are_grids.ensures;
      whole = c.each_grid_is_a_rectangle.ensures.whole;
      judged = λ placed p a depth whole tiles. c.refinements_are_tiles.ensures.grid (record { placed = placed }) p a depth whole tiles;
      tells = c.answers_tell_of_every_point.ensures;
      told = c.each_point_is_told.ensures;
    } in
    told_region laws
