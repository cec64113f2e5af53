use Rattle.std.proofs.Common.{◌≡◌, arith}
use Rattle.charge_model.specs.Prefixes.{least_fixed}
use Rattle.prefix_extremes.specs.Parts.{least_open_term}
use Rattle.prefix_extremes.proofs.Splits.{one_more, size_more, least_none}
use Rattle.prefix_extremes.proofs.extremes.least_alone.Goals as goal

pub loop-j-preserved : goal.loop-j-preserved
loop-j-preserved c =
    let p = c.args.problem.now in
    record {
      value = one_more (least_fixed p c.args.k) c.loop-j.j (least_open_term p c.args.k) _ _ _ c.loop-j.invariant.value c.least_open.ensures.value c.added-sum.ensures;
      small = size_more c.loop-j.j c.loop-j.sum.value c.least_open.result.value c.added-sum.result.value c.loop-j.invariant.small c.least_open.ensures.small c.added-sum.ensures;
    }

pub returns-clause-value : goal.returns-clause-value
returns-clause-value c =
    let all : c.loop-j.j ≡ c.args.problem.now.sites = omega (arith, c.loop-j-test.false, c.loop-j.auto.j-end, c.sites-j-end.ensures.value) in
    least_none c.args.problem.now c.args.k c.loop-j.j _ all c.loop-j.invariant.value
