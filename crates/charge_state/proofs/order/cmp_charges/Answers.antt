use Rattle.std.proofs.Common.{◌∙◌, ap, ◌<◌, ◌≤◌, length, arith}
use Rattle.std.specs.declared.cmp.Ordering.TheVariants.{Equal}
use Rattle.charge_model.specs.Charges.{rank_of}
use Rattle.charge_state.proofs.Comparing.{Tells, tells_apart, tells_alike}
use Rattle.charge_state.proofs.order.cmp_charges.Goals as goal

pub returns-in_default : goal.returns-in_default
returns-in_default c =
    let inside : c.loop-i.i < length c.args.a.now = omega (arith, c.loop-i-test.true, c.len-i-end.ensures.value) in
    let tells = tells_apart c.args.a.now c.args.b.now c.loop-i.i c.rank.result c.rank-in-loop-i.result c.cmp.result c.requires inside c.loop-i.invariant
    (c.rank.ensures ∙ ap rank_of c.at.ensures) (c.rank-in-loop-i.ensures ∙ ap rank_of c.at-in-loop-i.ensures) c.cmp.ensures c.in_default.not-Equal in
    record { less = tells.less; equal = tells.equal; greater = tells.greater }

alike : (c : goal.After-loop-i) → Tells c.args.a.now c.args.b.now Equal
alike c =
    let past : length c.args.a.now ≤ c.loop-i.i = omega (arith, c.loop-i-test.false, c.len-i-end.ensures.value) in
    tells_alike c.args.a.now c.args.b.now c.loop-i.i c.requires past c.loop-i.invariant

pub returns-clause-less : goal.returns-clause-less
returns-clause-less c = (alike c).less

pub returns-clause-equal : goal.returns-clause-equal
returns-clause-equal c = (alike c).equal

pub returns-clause-greater : goal.returns-clause-greater
returns-clause-greater c = (alike c).greater
