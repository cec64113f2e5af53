use Rattle.prefix_rows.specs.Tables.{ArePairParts}
use Rattle.prefix_rows.proofs.tables.pair_parts.Given as goal

abbrev pub invariant-loop-depth : goal.invariant-loop-depth
invariant-loop-depth l = ArePairParts l.problem l.depth l.parts.items
