use Rattle.std.proofs.Common.{◌≡◌, ◌≤◌, ◌+◌, ◌*◌, ◌^◌, ◌+ℤ◌, unsigned_abs}
use Rattle.charge_model.specs.Rules.{sum_below}
use Rattle.charge_model.specs.Prefixes.{least_fixed}
use Rattle.prefix_extremes.specs.Parts.{least_open_term}
use Rattle.prefix_extremes.proofs.extremes.least_alone.Given as goal

abbrev pub invariant-loop-j : goal.invariant-loop-j
invariant-loop-j l = record {
  value : l.sum.value ≡ least_fixed l.problem l.k +ℤ sum_below l.j (least_open_term l.problem l.k);
  small : unsigned_abs l.sum.value ≤ (24 + l.j) * 10 ^ 13;
}
