use Rattle.std.proofs.Common.{◌≡◌, ◌-ℤ◌, FitsSigned, w64, arith, ◌∙◌}
use Rattle.std.proofs.lemmas.Int.{ints, to_z-of_z, fits_signed_from_abs}
use Rattle.linear_form.proofs.Values.{value_of-minus}
use Rattle.linear_form.proofs.form.minus.Goals as goal

pub returns-clause-value : goal.returns-clause-value
returns-clause-value c = λ t.
    let a = c.args.a.now in
    let b = c.args.b.now in
    let k = c.constant.result -ℤ c.constant-2.result in
    let a_fits : FitsSigned w64 c.constant.result = record { sfits = c.constant.type_inv } in
    let b_fits : FitsSigned w64 c.constant-2.result = record { sfits = c.constant-2.type_inv } in
    let fits : FitsSigned w64 k = fits_signed_from_abs w64 k (omega (arith, ints, c.constant.ensures, c.constant-2.ensures, c.requires.constant, c.requires.constant_too)) in
    let form_is = simp to_z-of_z at c.new.ensures in
    let difference : k ≡ a.constant -ℤ b.constant = omega (arith, ints, c.constant.ensures, c.constant-2.ensures) in
    value_of-minus c.new.result a b k c.in_ok-coefficients.coefficients c.deref_mut.result.now c.subtract.new.coefficients c.coefficients-2.result.now t
    form_is difference (omega arith) c.deref_mut.ensures.value (c.in_ok-coefficients.ensures.items ∙ c.coefficients.ensures) c.coefficients-2.ensures (c.subtract.ensures.value t.potential)
