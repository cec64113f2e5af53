use Rattle.std.proofs.Common.{[]}
use Rattle.prefix_extremes.specs.Known.{IsAssigned}
use Rattle.prefix_rows.specs.Rows.{IsRow}
use Rattle.prefix_rows.proofs.rows.first_row.Given as goal

abbrev pub invariant-loop-k : goal.invariant-loop-k
invariant-loop-k l = IsRow l.k (IsAssigned l.problem [] 0) l.row
