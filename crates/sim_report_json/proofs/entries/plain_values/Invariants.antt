use Rattle.std.proofs.Common.{◌≡◌, map, take, None}
use Rattle.serde_json.specs.View.{view}
use Rattle.sim_report_json.specs.Parts.{entry_data}
use Rattle.sim_report_json.proofs.entries.plain_values.Given as goal

abbrev pub invariant-loop-j : goal.invariant-loop-j
invariant-loop-j l = map view l.values.items ≡ take l.j (map (entry_data None) l.list)
