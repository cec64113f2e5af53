use Rattle.std.proofs.Common.{◌≡◌, ◌<◌, ◌-ℤ◌, ◌*ℤ◌, neg_ℤ, length, pos, FitsSigned, w64, unsigned_abs, arith, add-one, subst, ap}
use Rattle.std.proofs.lemmas.Int.{ints, to_z-of_z, fits_signed_from_abs}
use Rattle.std.proofs.lemmas.List.Sums.{sum_by_more, get_or-le-sum_by}
use Rattle.charge_model.specs.Rules.{sum_below}
use Rattle.linear_form.specs.Forms.{coefficient_at, weighed}
use Rattle.charge_model.proofs.Sums.{neg-mul}
use Rattle.linear_form.proofs.form.subtract.Goals as goal

pub loop-c-preserved : goal.loop-c-preserved
loop-c-preserved c =
    let ks = c.args.others.now in
    let k = c.loop-c.c in
    let b = coefficient_at ks k in
    let below : k < length ks = omega arith in
    let small = get_or-le-sum_by unsigned_abs ks k (pos 0) below in
    let b_fits : FitsSigned w64 b = fits_signed_from_abs w64 b (omega (arith, small, c.requires.others)) in
    let fits : FitsSigned w64 (pos 0 -ℤ b) = fits_signed_from_abs w64 (pos 0 -ℤ b) (omega (arith, ints, small, c.requires.others)) in
    let zero_less : pos 0 -ℤ b ≡ neg_ℤ b = omega (arith, ints) in
    let more = sum_by_more unsigned_abs ks k (pos 0) below in
    let weight = simp to_z-of_z at c.add_term.ensures.weight in
    record {
      weight = omega (arith, ints, more, weight, c.loop-c.invariant.weight);
      value = λ u.
          let added = simp to_z-of_z at (c.add_term.ensures.value u) in
          let before = c.loop-c.invariant.value u in
          let turned = ap (λ z. z *ℤ u k) zero_less in
          let negated = neg-mul b (u k) in
          rw add-one (omega (arith, ints, added, before, turned, negated));
    }

pub returns-clause-value : goal.returns-clause-value
returns-clause-value c = λ u.
    let ks = c.args.others.now in
    let whole : c.loop-c.c ≡ length ks = omega arith in
    subst (λ n. weighed c.loop-c.coefficients u ≡ weighed c.args.coefficients.now u -ℤ sum_below n (λ k. coefficient_at ks k *ℤ u k)) whole (c.loop-c.invariant.value u)
