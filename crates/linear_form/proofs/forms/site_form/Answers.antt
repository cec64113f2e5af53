use Rattle.std.proofs.Common.{◌≡◌, ◌+ℤ◌, pos, arith, ◌∙◌}
use Rattle.std.proofs.lemmas.Int.{ints}
use Rattle.charge_model.specs.Rules.{potential_at}
use Rattle.linear_form.specs.Forms.{weighed}
use Rattle.linear_form.proofs.Values.{value_of-made}
use Rattle.linear_form.proofs.forms.site_form.Goals as goal

pub returns-clause-value : goal.returns-clause-value
returns-clause-value c = λ t.
    let sum : weighed c.add_potential.new.coefficients t.potential ≡ weighed c.deref_mut.result.now t.potential +ℤ potential_at c.args.problem.now t c.args.charges.now c.args.i =
    omega (arith, ints, c.add_potential.ensures.value t) in
    value_of-made c.new.result (pos 0) _ c.in_ok-coefficients.coefficients c.deref_mut.result.now c.add_potential.new.coefficients t c.new.ensures (omega arith) c.deref_mut.ensures.value c.in_ok-coefficients.ensures.value sum
    ∙ omega (arith, ints)
