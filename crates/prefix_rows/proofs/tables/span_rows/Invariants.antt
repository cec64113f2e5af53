use Rattle.prefix_rows.specs.Tables.{AreSpanRows}
use Rattle.prefix_rows.proofs.tables.span_rows.Given as goal

abbrev pub invariant-loop-j : goal.invariant-loop-j
invariant-loop-j l = AreSpanRows l.problem l.j l.rows.items
