use Rattle.std.proofs.Common.{◌≡◌, ◌≤◌, ◌+◌, take, ℕ, ℤ, ◌-ℤ◌, ◌*ℤ◌}
use Rattle.charge_model.specs.Rules.{sum_below}
use Rattle.linear_form.specs.Forms.{coefficient_at, weighed, weight_of}
use Rattle.linear_form.proofs.form.subtract.Given as goal

abbrev pub invariant-loop-c : goal.invariant-loop-c
invariant-loop-c l = record {
  weight : weight_of l.coefficients ≤ weight_of l.fn.coefficients + weight_of (take l.c l.others);
  value : (u : ℕ → ℤ) → weighed l.coefficients u ≡ weighed l.fn.coefficients u -ℤ sum_below l.c (λ k. coefficient_at l.others k *ℤ u k);
}
