use Rattle.std.proofs.Common.{◌≤ℤ◌, ◌∙◌, ◌<◌, length, pos, arith}
use Rattle.std.proofs.lemmas.Int.{ints}
use Rattle.std.proofs.lemmas.List.{get_or-map}
use Rattle.charge_model.specs.declared.TheConstants.{MAX_POTENTIAL}
use Rattle.table_lines.specs.declared.line.TableLine.TheVariants.{Class}
use Rattle.table_lines.proofs.LineLemmas.{fit}
use Rattle.potential_table.proofs.PushLemmas.{one_more, class_pushed}
use Rattle.potential_table.proofs.RangeLemmas.{short_potential}
use Rattle.potential_table.proofs.lines.push_classes.Goals as goal

pub loop-class-preserved : goal.loop-class-preserved
loop-class-preserved c =
    let s = c.span-span.result in
    let spans = c.args.problem.now.spans in
    let k = c.loop-class.class in
    let here : k < length spans = omega (arith, c.loop-class-test.true, c.classes-class-end.ensures.value) in
    let high : s.lo ≤ℤ MAX_POTENTIAL = omega (arith, ints, s.in_order, c.span-span.ensures.greatest) in
    let low : pos 0 ≤ℤ s.hi = omega (arith, ints, s.in_order, c.span-span.ensures.least) in
    let lo = fit s.lo (short_potential s.lo c.span-span.ensures.least high) ∙ c.span-span.ensures.lo ∙ get_or-map (λ t. t.lo) spans k s (pos 0) here in
    let hi = fit s.hi (short_potential s.hi low c.span-span.ensures.greatest) ∙ c.span-span.ensures.hi ∙ get_or-map (λ t. t.hi) spans k s (pos 0) here in
    one_more (λ t. Class t.lo t.hi) c.args.lines.now.items c.loop-class.lines.items _ spans k s here c.loop-class.invariant (class_pushed c.loop-class.lines.items _ _ _ _ _ c.in_ok-push.ensures.items lo hi)
