use Rattle.std.proofs.Common.{◌≡◌, ◌≤◌, ◌*◌, ◌^◌, unsigned_abs}
use Rattle.prefix_extremes.specs.Parts.{unassigned_low}
use Rattle.prefix_rows.proofs.verdicts.rows_low.Given as goal

abbrev pub invariant-loop-a : goal.invariant-loop-a
invariant-loop-a l = record {
  value : l.sum.value ≡ unassigned_low l.problem l.prefix l.a;
  small : unsigned_abs l.sum.value ≤ l.a * (88 * 10 ^ 13);
}
