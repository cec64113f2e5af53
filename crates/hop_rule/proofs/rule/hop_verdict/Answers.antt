use Rattle.std.proofs.Common.{pos, ◌<ℤ◌, arith}
use Rattle.std.proofs.lemmas.Int.{ints}
use Rattle.charge_model.specs.Rules.{hop_slack}
use Rattle.hop_rule.proofs.rule.hop_verdict.Goals as goal

pub returns-then-span-lt0-clause-verdict : goal.returns-then-span-lt0-clause-verdict
returns-then-span-lt0-clause-verdict c =
    let low : c.in_ok-span.span.hi <ℤ pos 0 = omega (arith, ints) in
    (c.greatest_values_decide.ensures c.args.problem.now (hop_slack c.args.problem.now c.args.charges.now c.args.i c.args.j) c.in_ok-span.span.hi c.in_ok-span.ensures.greatest).1 low
