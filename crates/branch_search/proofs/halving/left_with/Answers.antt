use Rattle.std.proofs.Common.{◌*◌, [], arith, subst, FitsSigned, w64}
use Rattle.std.proofs.lemmas.Int.{to_z-of_z}
use Rattle.branch_search.specs.declared.rounds.RoundAnswer.TheVariants.{Done}
use Rattle.branch_search.specs.Rounds.{IsSearched}
use Rattle.branch_search.proofs.Answering.{passed_says, passed_narrower, HaveNoFewer}
use Rattle.branch_search.proofs.halving.left_with.Goals as goal

pub returns-in-None-clause-tried : goal.returns-in-None-clause-tried
returns-in-None-clause-tried c =
    let p = c.args.problem.now in
    let least = c.least_certain_energies_exist.ensures p c.sites-sites.ensures.valid in
    let whole = c.nodes_count_their_children.ensures.whole p in
    let counts : HaveNoFewer p = λ a b h. let fewer = c.higher_thresholds_have_no_fewer_nodes.ensures p a b [] h in omega (arith, fewer, whole a, whole b) in
    let fits : FitsSigned w64 c.args.threshold = c.ranges.threshold in
    let passes = simp to_z-of_z at c.passed.ensures in
    let above = subst (λ z. IsSearched p c.args.threshold (2 * c.args.limit) (Done z)) c.in-None.is c.requires.found in
    passed_says p c.args.limit c.args.range.now c.args.threshold c.args.entered c.passed.result counts least.0 least.1 c.requires.range c.requires.inside.0 c.requires.inside.1 above c.requires.entered passes

pub returns-in-None-clause-narrower : goal.returns-in-None-clause-narrower
returns-in-None-clause-narrower c =
    let fits : FitsSigned w64 c.args.threshold = c.ranges.threshold in
    let passes = simp to_z-of_z at c.passed.ensures in
    passed_narrower c.args.range.now c.args.threshold c.args.limit c.args.entered c.passed.result c.requires.inside.0 passes
