use Rattle.std.proofs.Common.{◌≡◌, ◌≤◌, ◌*◌, ◌^◌, unsigned_abs}
use Rattle.prefix_extremes.specs.Parts.{assigned_low}
use Rattle.prefix_extremes.proofs.bound.assigned_low.Given as goal

abbrev pub invariant-loop-j : goal.invariant-loop-j
invariant-loop-j l = record {
  value : l.sum.value ≡ assigned_low l.problem l.prefix l.j;
  small : unsigned_abs l.sum.value ≤ l.j * (88 * 10 ^ 13);
}
