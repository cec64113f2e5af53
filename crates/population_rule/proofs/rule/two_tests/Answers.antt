use Rattle.std.proofs.Common.{pos, ◌≤ℤ◌, ◌<ℤ◌, arith}
use Rattle.std.proofs.lemmas.Int.{ints}
use Rattle.charge_model.specs.declared.charge.Test.TheVariants.{AbovePlus, BelowMinus}
use Rattle.charge_model.specs.Problem.{UnderEveryTable}
use Rattle.charge_model.specs.Rules.{test_slack}
use Rattle.population_rule.proofs.Verdicts.{at_neutral, below_of, above_fails, below_fails}
use Rattle.population_rule.proofs.rule.two_tests.Goals as goal

pub returns-then-below-lt0-clause-verdict : goal.returns-then-below-lt0-clause-verdict
returns-then-below-lt0-clause-verdict c =
    let low : c.in_ok-below.below.hi <ℤ pos 0 = omega (arith, ints) in
    let below = c.greatest_values_decide.ensures c.args.problem.now (test_slack c.args.problem.now c.args.charges.now c.args.i BelowMinus) c.in_ok-below.below.hi c.in_ok-below.ensures.greatest in
    (BelowMinus, below_of _ c.requires.neutral, below.1 low)

pub returns-then-above-lt0-2-clause-verdict : goal.returns-then-above-lt0-2-clause-verdict
returns-then-above-lt0-2-clause-verdict c =
    let p = c.args.problem.now in
    let cs = c.args.charges.now in
    let i = c.args.i in
    let high : pos 0 ≤ℤ c.in_ok-above.above.hi = omega (arith, ints) in
    let high_too : pos 0 ≤ℤ c.in_ok-below.below.hi = omega (arith, ints) in
    let low : c.in_ok-above.above.lo <ℤ pos 0 = omega (arith, ints) in
    let above = c.greatest_values_decide.ensures p (test_slack p cs i AbovePlus) c.in_ok-above.above.hi c.in_ok-above.ensures.greatest in
    let below = c.greatest_values_decide.ensures p (test_slack p cs i BelowMinus) c.in_ok-below.below.hi c.in_ok-below.ensures.greatest in
    let fails = c.least_values_decide.ensures p (test_slack p cs i AbovePlus) c.in_ok-above.above.lo c.in_ok-above.ensures.least in
    above_fails p cs i c.in_ok-above.above c.requires.neutral (above.0 high) (below.0 high_too) (fails.1 low) c.in_ok-above.ensures.least c.in_ok-above.ensures.greatest

pub returns-then-below-lt0-2-clause-verdict : goal.returns-then-below-lt0-2-clause-verdict
returns-then-below-lt0-2-clause-verdict c =
    let p = c.args.problem.now in
    let cs = c.args.charges.now in
    let i = c.args.i in
    let high : pos 0 ≤ℤ c.in_ok-above.above.hi = omega (arith, ints) in
    let high_too : pos 0 ≤ℤ c.in_ok-below.below.hi = omega (arith, ints) in
    let not_low : pos 0 ≤ℤ c.in_ok-above.above.lo = omega (arith, ints) in
    let low : c.in_ok-below.below.lo <ℤ pos 0 = omega (arith, ints) in
    let above = c.greatest_values_decide.ensures p (test_slack p cs i AbovePlus) c.in_ok-above.above.hi c.in_ok-above.ensures.greatest in
    let below = c.greatest_values_decide.ensures p (test_slack p cs i BelowMinus) c.in_ok-below.below.hi c.in_ok-below.ensures.greatest in
    let always = c.least_values_decide.ensures p (test_slack p cs i AbovePlus) c.in_ok-above.above.lo c.in_ok-above.ensures.least in
    let fails = c.least_values_decide.ensures p (test_slack p cs i BelowMinus) c.in_ok-below.below.lo c.in_ok-below.ensures.least in
    below_fails p cs i c.in_ok-below.below c.requires.neutral (always.0 not_low) (above.0 high) (below.0 high_too) (fails.1 low) c.in_ok-below.ensures.least c.in_ok-below.ensures.greatest

pub returns-else-below-lt0-2-clause-verdict : goal.returns-else-below-lt0-2-clause-verdict
returns-else-below-lt0-2-clause-verdict c =
    let p = c.args.problem.now in
    let cs = c.args.charges.now in
    let i = c.args.i in
    let not_low : pos 0 ≤ℤ c.in_ok-above.above.lo = omega (arith, ints) in
    let not_low_too : pos 0 ≤ℤ c.in_ok-below.below.lo = omega (arith, ints) in
    let above = c.least_values_decide.ensures p (test_slack p cs i AbovePlus) c.in_ok-above.above.lo c.in_ok-above.ensures.least in
    let below = c.least_values_decide.ensures p (test_slack p cs i BelowMinus) c.in_ok-below.below.lo c.in_ok-below.ensures.least in
    at_neutral (λ k. UnderEveryTable p (λ t. pos 0 ≤ℤ test_slack p cs i k t)) _ c.requires.neutral (above.0 not_low) (below.0 not_low_too)
