use Rattle.std.proofs.Common.{◌≡◌, ◌≤◌, ◌*◌, ◌^◌, take, unsigned_abs}
use Rattle.charge_model.specs.Problem.{lo_in, hi_in}
use Rattle.linear_form.specs.Forms.{weight_of}
use Rattle.linear_form.specs.Parts.{picked_below}
use Rattle.linear_form.proofs.extremes.least_sum.Given as goal

abbrev pub invariant-loop-c : goal.invariant-loop-c
invariant-loop-c l = record {
  value : l.total ≡ picked_below l.c l.coefficients (lo_in l.spans) (hi_in l.spans);
  size : unsigned_abs l.total ≤ weight_of (take l.c l.coefficients) * 10 ^ 13;
}
