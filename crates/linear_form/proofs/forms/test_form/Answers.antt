use Rattle.std.proofs.Common.{◌≡◌, ◌+ℤ◌, ◌*ℤ◌, pos, arith, ◌∙◌, ap, w64, FitsSigned}
use Rattle.std.proofs.lemmas.Int.{to_z-of_z}
use Rattle.charge_model.specs.Rules.{potential_at}
use Rattle.linear_form.specs.Forms.{weighed}
use Rattle.linear_form.specs.Parts.{sign_of}
use Rattle.linear_form.proofs.Values.{value_of-made, test_value}
use Rattle.linear_form.proofs.forms.test_form.Goals as goal

pub returns-clause-value : goal.returns-clause-value
returns-clause-value c = λ t.
    let p = c.args.problem.now in
    let cs = c.args.charges.now in
    let v = potential_at p t cs c.args.i in
    let constant_fits : FitsSigned w64 c.test_constant-constant.result = record { sfits = c.test_constant-constant.type_inv } in
    let sign_fits : FitsSigned w64 c.test_sign-sign.result = record { sfits = c.test_sign-sign.type_inv } in
    let form_is = simp to_z-of_z at c.new.ensures in
    let sum = simp to_z-of_z at (c.add_potential.ensures.value t) in
    let made : weighed c.add_potential.new.coefficients t.potential ≡ weighed c.deref_mut.result.now t.potential +ℤ sign_of c.args.test *ℤ v =
    sum ∙ ap (λ z. weighed c.deref_mut.result.now t.potential +ℤ z *ℤ v) c.test_sign-sign.ensures.value in
    value_of-made c.new.result _ _ c.in_ok-coefficients.coefficients c.deref_mut.result.now c.add_potential.new.coefficients t form_is (omega arith) c.deref_mut.ensures.value c.in_ok-coefficients.ensures.value made
    ∙ ap (λ z. pos t.scale *ℤ z +ℤ sign_of c.args.test *ℤ v) c.test_constant-constant.ensures.value
    ∙ test_value p t cs c.args.i c.args.test
