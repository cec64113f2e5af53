use Rattle.std.proofs.Common.{◌≡◌, ◌≤◌, ◌+◌, ◌*◌, ◌+ℤ◌, FitsSigned, w64, arith, ap, ◌∙◌, subst}
use Rattle.std.proofs.lemmas.Int.{to_z-of_z}
use Rattle.charge_model.specs.Charges.{number_at, number_of}
use Rattle.charge_model.specs.Rules.{energy, energy_below, fixed_energy_below}
use Rattle.linear_form.specs.Forms.{weighed, weight_of}
use Rattle.linear_form.proofs.Potentials.{energy_more, few_charges}
use Rattle.linear_form.proofs.sums.add_energy.Goals as goal
use Rattle.charge_model.proofs.Pairs.{pairs_before-twice}

pub add_fixed-requires-clause-room : goal.add_fixed-requires-clause-room
add_fixed-requires-clause-room c =
    let few = few_charges c.args.problem.now c.sites-j-end.ensures.valid in
    omega (arith, few, c.sites-j-end.ensures.within, c.add_sites.ensures.weight, c.loop-j.invariant.room)

pub loop-j-preserved : goal.loop-j-preserved
loop-j-preserved c =
    let p = c.args.problem.now in
    let j = c.loop-j.j in
    let few = few_charges p c.sites-j-end.ensures.valid in
    let sites = c.add_sites.ensures.weight in
    let fixed = c.add_fixed.ensures.weight in
    let row_fits : FitsSigned w64 c.number-row.result = record { sfits = c.number-row.type_inv } in
    let row_is : c.number-row.result ≡ number_at c.args.charges.now j = c.number-row.ensures.value ∙ ap number_of c.at.ensures in
    record {
      room = omega (arith, few, sites, fixed, c.sites-j-end.ensures.within, c.loop-j.invariant.room);
      weight = omega (arith, sites, fixed, c.loop-j.invariant.weight);
      value = λ t.
          let pairs = simp to_z-of_z at (c.add_sites.ensures.value t) in
          let near = simp to_z-of_z at (c.add_fixed.ensures.value t) in
          energy_more p t c.args.charges.now j _ _ _ _ c.number-row.result row_is (c.loop-j.invariant.value t) pairs near;
    }

pub returns-clause-value : goal.returns-clause-value
unfolding energy
returns-clause-value c = λ t.
    let p = c.args.problem.now in
    let cs = c.args.charges.now in
    let whole : c.loop-j.j ≡ p.sites = omega arith in
    subst (λ n. weighed c.loop-j.coefficients t.potential ≡ weighed c.args.coefficients.now t.potential +ℤ (energy_below p t cs n +ℤ fixed_energy_below p t cs n)) whole (c.loop-j.invariant.value t)

pub returns-clause-weight : goal.returns-clause-weight
returns-clause-weight c =
    let p = c.args.problem.now in
    let whole : c.loop-j.j ≡ p.sites = omega arith in
    let weight = subst (λ n. 2 * weight_of c.loop-j.coefficients + n ≤ n * n + 2 * (n * weight_of p.fixed_charges)) whole c.loop-j.invariant.weight in
    let pairs = pairs_before-twice p.sites p.sites (omega arith) in
    let small = c.weights_are_small.ensures p c.sites-j-end.ensures.valid in
    omega (arith, weight, pairs, small)
