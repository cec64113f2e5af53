use Rattle.std.proofs.Common.{pos, arith, ◌∙◌}
use Rattle.std.proofs.lemmas.Int.{ints}
use Rattle.linear_form.proofs.Values.{value_of-made}
use Rattle.linear_form.proofs.forms.energy_form.Goals as goal

pub returns-clause-value : goal.returns-clause-value
returns-clause-value c = λ t.
    value_of-made c.new.result (pos 0) _ c.in_ok-coefficients.coefficients c.deref_mut.result.now c.add_energy.new.coefficients t c.new.ensures (omega arith) c.deref_mut.ensures.value c.in_ok-coefficients.ensures.value (c.add_energy.ensures.value t)
    ∙ omega (arith, ints)
