use Rattle.std.proofs.Common.{◌≡◌, ◌≤◌, ◌+◌, ◌*◌, ◌^◌, unsigned_abs}
use Rattle.prefix_extremes.specs.Parts.{least_assigned, greatest_assigned}
use Rattle.prefix_extremes.proofs.extremes.assigned.Given as goal

abbrev pub invariant-loop-j : goal.invariant-loop-j
invariant-loop-j l = record {
  least : l.sum.least.value ≡ least_assigned l.problem l.prefix l.k l.j;
  greatest : l.sum.greatest.value ≡ greatest_assigned l.problem l.prefix l.k l.j;
  least_small : unsigned_abs l.sum.least.value ≤ (24 + l.j) * 10 ^ 13;
  greatest_small : unsigned_abs l.sum.greatest.value ≤ (24 + l.j) * 10 ^ 13;
}
