use Rattle.std.proofs.Common.{◌+◌, ◌++◌, ◌∷◌, [], length}
use Rattle.prefix_extremes.specs.Known.{IsAssigned}
use Rattle.prefix_rows.specs.Rows.{IsRow}
use Rattle.prefix_rows.proofs.rows.write_next.Given as goal

abbrev pub invariant-loop-k : goal.invariant-loop-k
invariant-loop-k l = IsRow l.k (IsAssigned l.problem (l.prefix ++ l.charge ∷ []) (length l.prefix + 1)) l.next
