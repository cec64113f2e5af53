use Rattle.prefix_extremes.specs.Known.{IsUnassigned}
use Rattle.prefix_rows.specs.Rows.{IsRow}
use Rattle.prefix_rows.specs.Tables.{AreUnassignedRows}
use Rattle.prefix_rows.proofs.tables.unassigned_rows.Given as goal

abbrev pub invariant-loop-depth : goal.invariant-loop-depth
invariant-loop-depth l = record {
  rows : AreUnassignedRows l.problem l.depth l.rows.items;
  row : IsRow l.problem.sites (IsUnassigned l.problem l.depth) l.row;
}
