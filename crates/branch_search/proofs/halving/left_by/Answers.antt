use Rattle.std.proofs.Common.{◌<◌, ◌*◌, arith, subst, FitsSigned, w64, Some}
use Rattle.std.proofs.lemmas.Int.{to_z-of_z}
use Rattle.charge_model.specs.Tree.{node_count}
use Rattle.branch_search.specs.Rounds.{IsSearched}
use Rattle.branch_search.proofs.Answering.{lower_range}
use Rattle.branch_search.proofs.halving.left_by.Goals as goal

pub returns-in-Exceeded-clause-tried : goal.returns-in-Exceeded-clause-tried
returns-in-Exceeded-clause-tried c =
    let p = c.args.problem.now in
    let fits : FitsSigned w64 c.args.threshold = c.ranges.threshold in
    let over = simp to_z-of_z at c.lower.ensures.over in
    let twice : 2 * c.args.limit < node_count p (Some c.args.threshold) = subst (λ a. IsSearched p c.args.threshold (2 * c.args.limit) a) c.in-Exceeded.is c.requires.found in
    lower_range p c.args.limit c.args.range.now c.lower.result c.args.threshold c.requires.range c.lower.ensures.below over c.requires.inside.0 c.requires.inside.1 (omega (arith, twice))
