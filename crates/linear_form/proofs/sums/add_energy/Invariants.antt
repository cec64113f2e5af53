use Rattle.std.proofs.Common.{◌≡◌, ◌≤◌, ◌+◌, ◌*◌, ◌+ℤ◌}
use Rattle.charge_model.specs.Problem.{Table}
use Rattle.charge_model.specs.Rules.{energy_below, fixed_energy_below}
use Rattle.linear_form.specs.Forms.{weighed, weight_of}
use Rattle.linear_form.proofs.sums.add_energy.Given as goal

abbrev pub invariant-loop-j : goal.invariant-loop-j
invariant-loop-j l = record {
  room : weight_of l.coefficients ≤ 88 * l.j;
  weight : 2 * weight_of l.coefficients + l.j ≤ l.j * l.j + 2 * (l.j * weight_of l.problem.fixed_charges);
  value : (t : Table) → weighed l.coefficients t.potential ≡ weighed l.fn.coefficients t.potential +ℤ (energy_below l.problem t l.charges l.j +ℤ fixed_energy_below l.problem t l.charges l.j);
}
