use Rattle.prefix_extremes.specs.Known.{IsUnassigned}
use Rattle.prefix_rows.specs.Rows.{IsRow}
use Rattle.prefix_rows.proofs.rows.first_unassigned.Given as goal

abbrev pub invariant-loop-k : goal.invariant-loop-k
invariant-loop-k l = IsRow l.k (IsUnassigned l.problem 0) l.row
