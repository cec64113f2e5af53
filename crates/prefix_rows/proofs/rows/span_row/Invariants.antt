use Rattle.prefix_rows.specs.Rows.{IsRow, IsSpanOfPair}
use Rattle.prefix_rows.proofs.rows.span_row.Given as goal

abbrev pub invariant-loop-k : goal.invariant-loop-k
invariant-loop-k l = IsRow l.k (IsSpanOfPair l.problem l.j) l.row
