use Rattle.std.proofs.Common.{◌≡◌, ◌++◌, drop, map}
use Rattle.serde_json.specs.View.{view}
use Rattle.gate_report.proofs.Behind.{cell_items_due}
use Rattle.gate_report.proofs.domain.cell_values.Given as goal

abbrev pub invariant-loop-k : goal.invariant-loop-k
invariant-loop-k l = map view l.values.items ++ cell_items_due l.k (drop l.k l.cells) ≡ cell_items_due 0 l.cells
