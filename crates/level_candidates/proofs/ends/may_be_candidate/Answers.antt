use Rattle.std.proofs.Common.{◌≡◌, ◌∙◌, ◌<◌, ap, sym, subst, arith, pos, ◌*ℤ◌, ◌≤ℤ◌}
use Rattle.charge_model.specs.Charges.{charge_at}
use Rattle.charge_model.specs.Rules.{potential_at}
use Rattle.level_candidates.specs.Ends.{Allows}
use Rattle.level_candidates.proofs.Bounded.{AreBounds, allowed}
use Rattle.level_candidates.proofs.ends.may_be_candidate.Goals as goal

pub loop-k-preserved : goal.loop-k-preserved
loop-k-preserved c = λ m inside possible.
    let p = c.args.problem.now in
    let q = c.args.track.now.prefix in
    let k = c.loop-k.k in
    let valid = c.sites-known.ensures.valid in
    let site : k < p.sites = omega arith in
    let lo = c.potential-bounds.result.least.value in
    let hi = c.potential-bounds.result.greatest.value in
    let bounds : AreBounds p q k lo hi = record {
      least = λ t is. subst (λ x. (pos t.scale *ℤ x) ≤ℤ potential_at p t q k) (sym c.potential-bounds.ensures.least) (c.potentials_lie_between.ensures.least p q k valid c.requires.full site t is);
      greatest = λ t is. subst (λ x. potential_at p t q k ≤ℤ (pos t.scale *ℤ x)) (sym c.potential-bounds.ensures.greatest) (c.potentials_lie_between.ensures.greatest p q k valid c.requires.full site t is);
    } in
    let charge : charge_at q k ≡ c.at-charge.result = ap (λ z. charge_at z k) (sym c.charges.ensures) ∙ sym c.at-charge.ensures in
    let fits = allowed p q k m lo hi c.at-charge.result charge site bounds possible in
    (c.narrowed-left.ensures m).1 (c.loop-k.invariant m inside possible, subst (λ g. Allows c.at-charge.result g hi lo m) (sym c.gap-gap.ensures.value) fits)
