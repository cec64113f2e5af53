use Rattle.region_domain.proofs.Found.{told}
use Rattle.region_domain.proofs.laws.each_point_is_told.Goals as goal

pub returns : goal.returns
returns c = λ placed p a depth whole tiles axes is are point inside.
    told placed (c.answers_tell_of_every_point.ensures placed) whole tiles
    (c.refinements_are_tiles.ensures.grid (record { placed = placed }) p a depth whole tiles axes is are) point inside
