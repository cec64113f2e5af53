use Rattle.std.proofs.Common.{◌+◌}
use Rattle.prefix_extremes.specs.Known.{IsUnassigned}
use Rattle.prefix_rows.specs.Rows.{IsRow}
use Rattle.prefix_rows.proofs.rows.next_unassigned.Given as goal

abbrev pub invariant-loop-k : goal.invariant-loop-k
invariant-loop-k l = IsRow l.k (IsUnassigned l.problem (l.depth + 1)) l.next
