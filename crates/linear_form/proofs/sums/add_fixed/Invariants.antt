use Rattle.std.proofs.Common.{◌≡◌, ◌≤◌, ◌+◌, take, ◌+ℤ◌, ◌*ℤ◌}
use Rattle.charge_model.specs.Problem.{Table, near_class_of, fixed_at}
use Rattle.charge_model.specs.Rules.{sum_below}
use Rattle.linear_form.specs.Forms.{weighed, weight_of}
use Rattle.linear_form.proofs.sums.add_fixed.Given as goal

abbrev pub invariant-loop-a : goal.invariant-loop-a
invariant-loop-a l = record {
  weight : weight_of l.coefficients ≤ weight_of l.fn.coefficients + weight_of (take l.a l.problem.fixed_charges);
  value : (t : Table) → weighed l.coefficients t.potential ≡ weighed l.fn.coefficients t.potential +ℤ l.fn.sign *ℤ sum_below l.a (λ b. t.potential (near_class_of l.problem l.i b) *ℤ fixed_at l.problem b);
}
