use Rattle.std.proofs.Common.{◌≡◌, ◌≤◌, ◌*◌, ◌^◌, unsigned_abs}
use Rattle.prefix_extremes.specs.Parts.{pairs_low}
use Rattle.prefix_extremes.proofs.bound.pairs_low.Given as goal

abbrev pub invariant-loop-b : goal.invariant-loop-b
invariant-loop-b l = record {
  value : l.sum.value ≡ pairs_low l.problem l.depth l.b;
  small : unsigned_abs l.sum.value ≤ l.b * (64 * 10 ^ 13);
}
