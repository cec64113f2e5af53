use Rattle.std.proofs.Common.{◌*ℤ◌, FitsSigned, w64, arith, ap}
use Rattle.std.proofs.lemmas.Int.{ints, to_z-of_z}
use Rattle.charge_model.specs.Rules.{potential_at, potential_below, fixed_potential}
use Rattle.charge_model.proofs.Sums.{mul-add}
use Rattle.linear_form.proofs.Potentials.{few_charges}
use Rattle.linear_form.proofs.sums.add_potential.Goals as goal

pub add_fixed-requires-clause-room : goal.add_fixed-requires-clause-room
add_fixed-requires-clause-room c =
    let few = few_charges c.args.problem.now c.sites.ensures.valid in omega (arith, few, c.add_sites.ensures.weight, c.requires.room)

pub returns-clause-value : goal.returns-clause-value
unfolding potential_at
returns-clause-value c = λ t.
    let p = c.args.problem.now in
    let cs = c.args.charges.now in
    let sign_fits : FitsSigned w64 c.args.sign = c.ranges.sign in
    let sites = simp to_z-of_z at (c.add_sites.ensures.value t) in
    let fixed = simp to_z-of_z at (c.add_fixed.ensures.value t) in
    let whole = ap (λ n. c.args.sign *ℤ potential_below p t cs c.args.i n) c.sites.ensures.value in
    let spread = mul-add c.args.sign (potential_below p t cs c.args.i p.sites) (fixed_potential p t c.args.i) in
    omega (arith, ints, sites, fixed, whole, spread)

pub returns-clause-weight : goal.returns-clause-weight
returns-clause-weight c =
    let few = few_charges c.args.problem.now c.sites.ensures.valid in
    omega (arith, few, c.sites.ensures.within, c.add_sites.ensures.weight, c.add_fixed.ensures.weight)
