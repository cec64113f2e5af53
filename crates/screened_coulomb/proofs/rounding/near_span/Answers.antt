use Rattle.std.proofs.Common.{arith, ◌∙◌, ℕ, ◌^◌, ◌<◌, ◌≤◌, ap}
use Rattle.std.proofs.lemmas.Int.{ints}
use Rattle.std.proofs.lemmas.Nat.{pow_pos}
use Rattle.screened_coulomb.specs.Rounding.{argument_down_of, rounded_hi, rounded_lo}
use Rattle.screened_coulomb.proofs.SizeLemmas.{argument_down_bound, argument_up_small, quotient_up_small, quotients_in_order, ends_in_order}
use Rattle.screened_coulomb.proofs.HoldLemmas.{high_holds, low_holds, span_holds}
use Rattle.screened_coulomb.proofs.rounding.near_span.Goals as goal

pub lower_end-lo-requires-clause-quotient : goal.lower_end-lo-requires-clause-quotient
lower_end-lo-requires-clause-quotient c =
    omega (arith, c.quotient_down.ensures, quotients_in_order c.args.p.now c.args.root c.requires.least, quotient_up_small c.args.p.now c.args.root c.requires.least)

pub upper_end-hi-requires-clause-quotient : goal.upper_end-hi-requires-clause-quotient
upper_end-hi-requires-clause-quotient c =
    omega (arith, c.quotient_up.ensures, quotient_up_small c.args.p.now c.args.root c.requires.least)

pub span_between-requires : goal.span_between-requires
span_between-requires c =
    let sums = c.exp_sums-sums.result in
    let sized = c.exp_sums-sums.ensures.within in
    let some : 0 < sums.down = omega (arith, sized.one, pow_pos sums.f) in
    let quotients : c.quotient_down.result ≤ c.quotient_up.result =
    omega (arith, c.quotient_down.ensures, c.quotient_up.ensures, quotients_in_order c.args.p.now c.args.root c.requires.least) in
    let order = ends_in_order c.quotient_down.result c.quotient_up.result (2 ^ sums.f) sums.down sums.up c.lower_end-lo.result c.upper_end-hi.result quotients some sized.order c.lower_end-lo.ensures.value c.upper_end-hi.ensures.value in
    omega (arith, ints, order, c.lower_end-lo.ensures.within, c.upper_end-hi.ensures.within)

pub returns-clause-holds : goal.returns-clause-holds
returns-clause-holds c = λ d of_root.
    let p = c.args.p.now in
    let root = c.args.root in
    let sums = c.exp_sums-sums.result in
    let sized = c.exp_sums-sums.ensures.within in
    let lo = c.lower_end-lo.ensures.value ∙ ap (λ (q : ℕ). rounded_lo q sums.f sums.up) c.quotient_down.ensures.value in
    let hi = c.upper_end-hi.ensures.value ∙ ap (λ (q : ℕ). rounded_hi q sums.f sums.down) c.quotient_up.ensures.value in
    let down_is = c.argument_down.ensures.value in
    let up_is = c.argument_up.ensures.value in
    let low = low_holds p d root sums.f sums.down sums.up c.requires.least of_root sized c.lower_end-lo.result (argument_up_small p root c.requires.near)
    (λ n q k from arg. c.exp_sums-sums.ensures.contained_up n q k from (rw up_is arg)) lo in
    let high = high_holds p d root sums.f sums.down sums.up c.requires.least of_root sized (argument_down_of p root) c.upper_end-hi.result (argument_down_bound p root)
    (λ n q k from arg. c.exp_sums-sums.ensures.contained_down n q k from (rw down_is arg)) hi in
    span_holds p d c.lower_end-lo.result c.upper_end-hi.result c.span_between.result.lo c.span_between.result.hi
    (omega (arith, ints, c.span_between.ensures.lo, c.lower_end-lo.ensures.within)) (omega (arith, ints, c.span_between.ensures.hi, c.upper_end-hi.ensures.within)) low high
