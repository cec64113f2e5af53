use Rattle.std.proofs.Common.{◌≡◌, ◌∙◌, sym, ap, subst, ◌++◌, [], refl}
use Rattle.charge_model.specs.Charges.{IsLast}
use Rattle.charge_state.proofs.Numerals.{next_made, none_after_last, next_not_last}
use Rattle.charge_state.proofs.order.next_charges.Goals as goal

pub returns-in-Some-successor-clause-next : goal.returns-in-Some-successor-clause-next
returns-in-Some-successor-clause-next c =
    next_made c.args.base c.args.charges.now c.loop-charge.next c.pop.new.self c.loop-charge.invariant.0 _ _ c.in-Some.charge c.in-Some-successor.higher _
    c.loop-charge.invariant.1 c.in-Some.ensures.taken c.loop-charge.invariant.2 (sym c.in-Some-successor.ensures)
    c.push.ensures c.len.ensures.value c.fill.ensures c.requires.of_base

pub returns-in-Some-successor-clause-none : goal.returns-in-Some-successor-clause-none
returns-in-Some-successor-clause-none c =
    (λ e. absurd (cc), λ last. absurd (next_not_last c.args.base c.args.charges.now _ (returns-in-Some-successor-clause-next c) last))

pub returns-clause-none : goal.returns-clause-none
returns-clause-none c =
    let rest = c.loop-charge.invariant.0 in
    let gone : c.loop-charge.next ≡ [] = c.in_default.ensures.none.0 refl in
    let whole : rest ≡ c.args.charges.now = sym (c.loop-charge.invariant.1 ∙ ap (λ z. z ++ rest) gone) in
    (λ _. subst (IsLast c.args.base) whole (none_after_last c.args.base rest c.loop-charge.invariant.2), λ _. refl)
