use Rattle.std.proofs.Common.{arith, ◌∙◌, ℕ, ap}
use Rattle.std.proofs.Math.Nat.{le_trans, mul-le-mul_right}
use Rattle.std.proofs.lemmas.Int.{ints}
use Rattle.screened_coulomb.specs.Potential.{lam_of}
use Rattle.screened_coulomb.specs.Rounding.{far_from, rounded_hi}
use Rattle.screened_coulomb.proofs.SizeLemmas.{argument_down_bound, quotient_up_small}
use Rattle.screened_coulomb.proofs.HoldLemmas.{high_holds, span_holds, zero_holds}
use Rattle.screened_coulomb.proofs.rounding.far_span.Goals as goal

pub upper_end-hi-requires-clause-quotient : goal.upper_end-hi-requires-clause-quotient
upper_end-hi-requires-clause-quotient c =
    omega (arith, c.quotient_up.ensures, quotient_up_small c.args.p.now c.args.root c.requires.least)

pub returns-clause-holds : goal.returns-clause-holds
returns-clause-holds c = λ d of_root.
    let p = c.args.p.now in
    let root = c.args.root in
    let sums = c.exp_sums-sums.result in
    let sized = c.exp_sums-sums.ensures.within in
    let hi = c.upper_end-hi.ensures.value ∙ ap (λ (q : ℕ). rounded_hi q sums.f sums.down) c.quotient_up.ensures.value in
    let high = high_holds p d root sums.f sums.down sums.up c.requires.least of_root sized far_from c.upper_end-hi.result (le_trans (mul-le-mul_right (lam_of p) c.requires.far) (argument_down_bound p root))
    c.exp_sums-sums.ensures.contained_down hi in
    span_holds p d 0 c.upper_end-hi.result c.span_between.result.lo c.span_between.result.hi
    (omega (arith, ints, c.span_between.ensures.lo)) (omega (arith, ints, c.span_between.ensures.hi, c.upper_end-hi.ensures.within)) (λ k b _ _. zero_holds p k b) high
