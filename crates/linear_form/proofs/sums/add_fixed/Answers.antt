use Rattle.std.proofs.Common.{◌≡◌, ◌+ℤ◌, ◌*ℤ◌, pos, FitsSigned, w64, arith, ap, ◌∙◌, subst}
use Rattle.std.specs.Prelude.{unsigned_abs}
use Rattle.std.proofs.lemmas.Int.{ints, to_z-of_z}
use Rattle.std.proofs.lemmas.List.Sums.{sum_by_more}
use Rattle.charge_model.specs.Problem.{near_class_of, fixed_at}
use Rattle.charge_model.specs.Rules.{sum_below}
use Rattle.linear_form.specs.Forms.{weighed}
use Rattle.linear_form.proofs.Potentials.{fixed_more}
use Rattle.linear_form.proofs.sums.add_fixed.Goals as goal

pub loop-a-preserved : goal.loop-a-preserved
loop-a-preserved c =
    let p = c.args.problem.now in
    let a = c.loop-a.a in
    let number_fits : FitsSigned w64 c.fix_charge.result = record { sfits = c.fix_charge.type_inv } in
    let term_fits : FitsSigned w64 c.signed_number-term.result = record { sfits = c.signed_number-term.type_inv } in
    let sign_fits : FitsSigned w64 c.args.sign = c.ranges.sign in
    let more = sum_by_more unsigned_abs p.fixed_charges a (pos 0) (omega arith) in
    let number = c.fix_charge.ensures.value in
    let size = ap unsigned_abs number in
    let small = simp to_z-of_z at c.signed_number-term.ensures.small in
    let weight = simp to_z-of_z at c.add_term.ensures.weight in
    let term_is : c.signed_number-term.result ≡ c.args.sign *ℤ fixed_at p a =
    let is = simp to_z-of_z at c.signed_number-term.ensures.value in is ∙ ap (λ z. c.args.sign *ℤ z) number in
    record {
      weight = omega (arith, ints, more, small, size, weight, c.loop-a.invariant.weight);
      value = λ t.
          let before = simp to_z-of_z at (c.loop-a.invariant.value t) in
          let added = simp to_z-of_z at (c.add_term.ensures.value t.potential) in
          let near = ap t.potential c.near.ensures.value in
          let here = added ∙ ap (λ z. weighed c.loop-a.coefficients t.potential +ℤ c.signed_number-term.result *ℤ z) near in
          simp to_z-of_z (fixed_more p t c.args.i a c.args.sign _ _ _ c.signed_number-term.result term_is before here);
    }

pub returns-clause-value : goal.returns-clause-value
returns-clause-value c = λ t.
    let p = c.args.problem.now in
    let sign_fits : FitsSigned w64 c.args.sign = c.ranges.sign in
    let sum = simp to_z-of_z at (c.loop-a.invariant.value t) in
    let whole : c.loop-a.a ≡ c.fixes-a-end.result = omega arith in
    subst (λ n. weighed c.loop-a.coefficients t.potential ≡ weighed c.args.coefficients.now t.potential +ℤ c.args.sign *ℤ sum_below n (λ b. t.potential (near_class_of p c.args.i b) *ℤ fixed_at p b)) (whole ∙ c.fixes-a-end.ensures.value) sum
