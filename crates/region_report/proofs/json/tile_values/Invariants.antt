use Rattle.std.proofs.Common.{◌≡◌, ◌++◌, drop, map}
use Rattle.serde_json.specs.View.{view}
use Rattle.region_report.proofs.Behind.{items_due}
use Rattle.region_report.proofs.json.tile_values.Given as goal

abbrev pub invariant-loop-k : goal.invariant-loop-k
invariant-loop-k l = map view l.values.items ++ items_due (drop l.k l.tiles) ≡ items_due l.tiles
