use Rattle.charge_model.specs.Prefixes.{least_fixed, greatest_fixed}
use Rattle.prefix_extremes.specs.Parts.{least_term, greatest_term}
use Rattle.prefix_extremes.proofs.Splits.{one_more, size_more}
use Rattle.prefix_extremes.proofs.extremes.assigned.Goals as goal

pub loop-j-preserved : goal.loop-j-preserved
loop-j-preserved c =
    let p = c.args.problem.now in
    let q = c.args.prefix.now in
    record {
      least = one_more (least_fixed p c.args.k) c.loop-j.j (least_term p q c.args.k) _ _ _ c.loop-j.invariant.least c.assigned_term.ensures.least c.plus-sum.ensures.least;
      greatest = one_more (greatest_fixed p c.args.k) c.loop-j.j (greatest_term p q c.args.k) _ _ _ c.loop-j.invariant.greatest c.assigned_term.ensures.greatest c.plus-sum.ensures.greatest;
      least_small = size_more c.loop-j.j c.loop-j.sum.least.value c.assigned_term.result.least.value c.plus-sum.result.least.value c.loop-j.invariant.least_small c.assigned_term.ensures.least_small c.plus-sum.ensures.least;
      greatest_small = size_more c.loop-j.j c.loop-j.sum.greatest.value c.assigned_term.result.greatest.value c.plus-sum.result.greatest.value c.loop-j.invariant.greatest_small c.assigned_term.ensures.greatest_small c.plus-sum.ensures.greatest;
    }
