use Rattle.region_tiles.proofs.RefinedLemmas.{grid_small, some_whole}
use Rattle.region_tiles.proofs.laws.each_grid_is_a_rectangle.Goals as goal

pub returns : goal.returns
returns g c = record { whole = some_whole; small = λ j. grid_small (g.J.Meaning.says j) }
