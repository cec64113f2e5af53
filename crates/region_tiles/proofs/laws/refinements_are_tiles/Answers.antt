use Rattle.region_tiles.proofs.RefinedLemmas.{grid_judged, refined_judged}
use Rattle.region_tiles.proofs.laws.refinements_are_tiles.Goals as goal

pub returns : goal.returns
returns g c = record { rectangle = λ j. refined_judged (g.J.Meaning.says j); grid = λ j. grid_judged (g.J.Meaning.says j) }
