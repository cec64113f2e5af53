use Rattle.std.proofs.Common.{◌≡◌, ◌<◌, arith, sym, ◌∙◌}
use Rattle.prefix_extremes.proofs.Opening.{closed_is_not_open, open_to_the_end}
use Rattle.prefix_extremes.proofs.calls.closed_at.Goals as goal

pub returns-then-not-open-clause-none : goal.returns-then-not-open-clause-none
returns-then-not-open-clause-none c =
    let inside : c.loop-k.k < c.args.problem.now.sites = omega (arith, c.loop-k-test.true, c.sites-k-end.ensures.value) in
    closed_is_not_open c.args.problem.now c.args.prefix.now c.loop-k.k inside (sym c.keeps_open-open.ensures ∙ c.if-not-open.true)

pub returns-clause-none : goal.returns-clause-none
returns-clause-none c =
    let all : c.loop-k.k ≡ c.args.problem.now.sites = omega (arith, c.loop-k-test.false, c.loop-k.auto.k-end, c.sites-k-end.ensures.value) in
    open_to_the_end c.args.problem.now c.args.prefix.now c.loop-k.k all c.loop-k.invariant
