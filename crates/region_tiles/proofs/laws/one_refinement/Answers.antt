use Rattle.region_tiles.proofs.RefinedLemmas.{one_grid, one_refined}
use Rattle.region_tiles.proofs.laws.one_refinement.Goals as goal

pub returns : goal.returns
returns g c = record { rectangle = λ j. one_refined (g.J.Meaning.says j); grid = λ j. one_grid (g.J.Meaning.says j) }
