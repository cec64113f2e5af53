use Rattle.region_tiles.proofs.RefinedLemmas.{some_grid_tiles, some_refined}
use Rattle.region_tiles.proofs.laws.some_refinement.Goals as goal

pub returns : goal.returns
returns g c = record { rectangle = λ j. some_refined (g.J.Meaning.says j); grid = λ j. some_grid_tiles (g.J.Meaning.says j) }
