use Rattle.std.proofs.Common.{subst, below_more, arith}
use Rattle.charge_model.specs.Rules.{at_site, test_slack}
use Rattle.population_rule.specs.Verdict.{IsPopulationVerdict}
use Rattle.charge_validity.specs.OwnMarks.{AreTestsCertain}
use Rattle.charge_validity.proofs.OwnMarkLemmas.{never_possible}
use Rattle.charge_validity.proofs.marking.first_test.Goals as goal

pub unreachable-requires : goal.unreachable-requires
unreachable-requires c =
    let p = c.args.problem.now in
    let cs = c.args.charges.now in
    let i = c.loop-i.i in
    let never = subst (IsPopulationVerdict p cs i) c.in-Never.is c.in_ok-population.ensures.verdict in
    never_possible p (test_slack p cs i never.0) never.2 (c.requires.possible (at_site i never.0) (omega arith, never.1))

pub loop-i-preserved : goal.loop-i-preserved
loop-i-preserved c =
    let p = c.args.problem.now in
    let cs = c.args.charges.now in
    below_more (AreTestsCertain p cs) c.loop-i.i c.loop-i.invariant
    (subst (IsPopulationVerdict p cs c.loop-i.i) c.in-Always.is c.in_ok-population.ensures.verdict)
