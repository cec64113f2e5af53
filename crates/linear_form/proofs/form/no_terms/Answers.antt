use Rattle.linear_form.proofs.Potentials.{weighed-zeros}
use Rattle.linear_form.proofs.form.no_terms.Goals as goal

pub returns-clause-value : goal.returns-clause-value
returns-clause-value c = λ u.
    rw (c.in_ok-coefficients.ensures.items_if_clones_equal (λ y e. e)) (weighed-zeros c.classes.result u)
