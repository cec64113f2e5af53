use Rattle.std.proofs.Common.{◌≡◌, length, ap, arith, ◌∙◌}
use Rattle.charge_model.specs.Tree.{all_below}
use Rattle.prefix_extremes.specs.Closed.{keeps_open}
use Rattle.prefix_rows.proofs.LimitLemmas.{all_passed, opens_where_all}
use Rattle.prefix_rows.proofs.verdicts.rows_open.Goals as goal

pub returns-then-base-eq3 : goal.returns-then-base-eq3
returns-then-base-eq3 c =
    let p = c.args.problem.now in
    let q = c.args.prefix.now in
    let three : p.base ≡ 3 = omega (arith, c.base.ensures.value, c.if-base-eq3.true) in
    let depth : c.loop-k.k ≡ length q = omega (arith, c.loop-k-test.false, c.loop-k.auto.k-end, c.len-depth.ensures.value) in
    c.loop-k.invariant ∙ ap (λ n. all_below n (keeps_open p q)) depth
    ∙ all_passed p.sites (length q) (keeps_open p q) c.requires.short (λ k g l. c.unassigned_sites_stay_open.ensures p q k c.sites-valid.ensures.valid three g)
    ∙ opens_where_all p q

pub returns : goal.returns
returns c =
    let p = c.args.problem.now in
    let q = c.args.prefix.now in
    let end : c.loop-k-2.k ≡ p.sites = omega (arith, c.loop-k-2-test.false, c.loop-k-2.auto.k-end, c.len-depth.ensures.value, c.requires.short, c.sites-k-end.ensures.value) in
    c.loop-k-2.invariant ∙ ap (λ n. all_below n (keeps_open p q)) end ∙ opens_where_all p q
