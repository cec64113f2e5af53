use Rattle.std.proofs.Common.{◌≡◌, ℕ, ◌<◌, ◌≤◌, ◌⊎◌, inl, inr, true, arith, sym, ◌∙◌}
use Rattle.std.proofs.lemmas.Bool.{cases_lt}
use Rattle.prefix_extremes.specs.Closed.{keeps_open}
use Rattle.prefix_rows.proofs.verdicts.rows_closed_at.Goals as goal

either_way : (P : ℕ → Type 0) (n : ℕ) → ((j : ℕ) → j < n → P j) → ((j : ℕ) → n ≤ j → P j) → (j : ℕ) → P j
either_way P n before after j = by (cases_lt j n)
  where
    by : (j < n) ⊎ (n ≤ j) → P j
    by (inl l) = before j l
    by (inr g) = after j g

pub returns-then-not-open-clause-none : goal.returns-then-not-open-clause-none
returns-then-not-open-clause-none c =
    let inside : c.loop-k.k < c.args.problem.now.sites = omega (arith, c.loop-k-test.true, c.len-depth.ensures.value, c.requires.short) in
    sym (c.sites_decide.ensures.closes c.args.problem.now c.args.prefix.now c.loop-k.k inside (sym c.site_open-open.ensures ∙ c.if-not-open.true))

pub returns-then-base-eq3-clause-none : goal.returns-then-base-eq3-clause-none
returns-then-base-eq3-clause-none c =
    let p = c.args.problem.now in
    let q = c.args.prefix.now in
    let three : p.base ≡ 3 = omega (arith, c.base.ensures.value, c.if-base-eq3.true) in
    let each = either_way (λ j. keeps_open p q j ≡ true) c.loop-k.k c.loop-k.invariant
    (λ j g. c.unassigned_sites_stay_open.ensures p q j c.sites-sites.ensures.valid three (omega (arith, g, c.loop-k-test.false, c.loop-k.auto.k-end, c.len-depth.ensures.value))) in
    sym (c.sites_decide.ensures.opens p q (λ j l. each j))

pub returns-then-not-open-2-clause-none : goal.returns-then-not-open-2-clause-none
returns-then-not-open-2-clause-none c =
    let inside : c.loop-k-2.k < c.args.problem.now.sites = omega (arith, c.loop-k-2-test.true, c.sites-sites.ensures.value) in
    sym (c.sites_decide.ensures.closes c.args.problem.now c.args.prefix.now c.loop-k-2.k inside (sym c.unassigned_keeps_open-open.ensures ∙ c.if-not-open-2.true))

pub returns-clause-none : goal.returns-clause-none
returns-clause-none c =
    let room : c.len-depth.result ≤ c.sites-sites.result = omega (arith, c.len-depth.ensures.value, c.sites-sites.ensures.value, c.requires.short) in
    let all : c.loop-k-2.k ≡ c.args.problem.now.sites = omega (arith, c.loop-k-2-test.false, c.loop-k-2.auto.k-end room, c.sites-sites.ensures.value) in
    sym (c.sites_decide.ensures.opens c.args.problem.now c.args.prefix.now (λ j l. c.loop-k-2.invariant j (omega (arith, l, all))))
