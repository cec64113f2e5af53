use Rattle.std.proofs.Common.{◌≡◌, ◌≤◌, ◌+◌, ◌*◌, ◌^◌, unsigned_abs}
use Rattle.charge_model.specs.Rules.{sum_below}
use Rattle.prefix_extremes.specs.Parts.{open_pair_low}
use Rattle.prefix_extremes.proofs.bound.pairs_row.Given as goal

abbrev pub invariant-loop-a : goal.invariant-loop-a
invariant-loop-a l = record {
  value : l.sum.value ≡ sum_below l.a (λ i. open_pair_low l.problem (l.depth + i) (l.depth + l.b));
  small : unsigned_abs l.sum.value ≤ l.a * 10 ^ 13;
}
