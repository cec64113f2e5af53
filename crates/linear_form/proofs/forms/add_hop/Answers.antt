use Rattle.std.proofs.Common.{arith, ap}
use Rattle.std.proofs.lemmas.Int.{ints}
use Rattle.linear_form.proofs.forms.add_hop.Goals as goal

pub returns-clause-value : goal.returns-clause-value
returns-clause-value c = λ t.
    let p = c.args.problem.now in
    let cs = c.args.charges.now in
    let pair = ap t.potential c.class.ensures.value in
    let law = c.hops_cost_potentials.ensures p t cs c.args.i c.args.j c.requires.charges.whole c.requires.i c.requires.j c.requires.hop in
    omega (arith, ints, c.add_potential.ensures.value t, c.add_potential-2.ensures.value t, c.add_term.ensures.value t.potential, pair, law)
