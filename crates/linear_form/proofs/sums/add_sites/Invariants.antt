use Rattle.std.proofs.Common.{◌≡◌, ◌≤◌, ◌+◌, ◌+ℤ◌, ◌*ℤ◌}
use Rattle.charge_model.specs.Problem.{Table}
use Rattle.charge_model.specs.Rules.{potential_below}
use Rattle.linear_form.specs.Forms.{weighed, weight_of}
use Rattle.linear_form.proofs.sums.add_sites.Given as goal

abbrev pub invariant-loop-j : goal.invariant-loop-j
invariant-loop-j l = record {
  weight : weight_of l.coefficients ≤ weight_of l.fn.coefficients + l.j;
  value : (t : Table) → weighed l.coefficients t.potential ≡ weighed l.fn.coefficients t.potential +ℤ l.fn.sign *ℤ potential_below l.problem t l.charges l.i l.j;
}
