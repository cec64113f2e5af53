use Rattle.sidb_layout.proofs.Made.{squared_distance-turned}
use Rattle.sidb_layout.proofs.laws.distances_have_no_direction.Goals as goal

pub returns : goal.returns
returns c = squared_distance-turned
