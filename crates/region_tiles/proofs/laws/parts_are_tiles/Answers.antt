use Rattle.region_tiles.proofs.RefinedLemmas.{grid_tiles, parts_tile}
use Rattle.region_tiles.proofs.laws.parts_are_tiles.Goals as goal

pub returns : goal.returns
returns c = record { parts = parts_tile; grid = grid_tiles }
