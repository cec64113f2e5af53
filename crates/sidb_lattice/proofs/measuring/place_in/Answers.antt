use Rattle.sidb_lattice.proofs.Rising.{not_missed}
use Rattle.sidb_lattice.proofs.measuring.place_in.Goals as goal

pub unreachable-requires : goal.unreachable-requires
unreachable-requires c =
    not_missed c.args.distances.now c.args.distance c.in-Err.field-0 c.requires.rising c.requires.present c.in-Err.ensures.position
