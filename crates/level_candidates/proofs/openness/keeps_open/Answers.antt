use Rattle.std.proofs.Common.{◌<◌, ◌≤◌, length, ap, ◌∙◌, arith}
use Rattle.charge_model.specs.Charges.{charge_at}
use Rattle.level_candidates.proofs.Raised.{assigned_keeps, unassigned_keeps}
use Rattle.level_candidates.proofs.openness.keeps_open.Goals as goal

pub returns-then-k-len : goal.returns-then-k-len
returns-then-k-len c =
    let inside : c.args.k < length c.args.track.now.prefix = omega (arith, c.if-k-len.true, c.len.ensures.len) in
    assigned_keeps c.args.problem.now c.args.plan.now.levels c.args.track.now.prefix c.args.k c.at.result c.extremes_in-extremes.result.least.value c.extremes_in-extremes.result.greatest.value c.allows_in.result
    inside (c.at.ensures ∙ ap (λ q. charge_at q c.args.k) c.charges.ensures) c.extremes_in-extremes.ensures.least c.extremes_in-extremes.ensures.greatest c.allows_in.ensures

pub returns-else-k-len : goal.returns-else-k-len
returns-else-k-len c =
    let outside : length c.args.track.now.prefix ≤ c.args.k = omega (arith, c.if-k-len.false, c.len.ensures.len) in
    unassigned_keeps c.args.problem.now c.args.plan.now.levels c.args.track.now.prefix c.args.k c.extremes_in-extremes.result.least.value c.extremes_in-extremes.result.greatest.value c.allows_some_in.result
    outside c.extremes_in-extremes.ensures.least c.extremes_in-extremes.ensures.greatest c.allows_some_in.ensures
