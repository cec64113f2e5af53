use Rattle.std.proofs.Common.{◌≡◌, ◌≤◌, ◌*◌, ◌^◌, unsigned_abs}
use Rattle.prefix_extremes.specs.Parts.{least_unassigned, greatest_unassigned}
use Rattle.prefix_extremes.proofs.extremes.unassigned.Given as goal

abbrev pub invariant-loop-a : goal.invariant-loop-a
invariant-loop-a l = record {
  least : l.sum.least.value ≡ least_unassigned l.problem l.depth l.k l.a;
  greatest : l.sum.greatest.value ≡ greatest_unassigned l.problem l.depth l.k l.a;
  least_small : unsigned_abs l.sum.least.value ≤ l.a * 10 ^ 13;
  greatest_small : unsigned_abs l.sum.greatest.value ≤ l.a * 10 ^ 13;
}
