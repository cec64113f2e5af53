use Rattle.std.proofs.Common.{◌≡◌, map, take}
use Rattle.serde_json.specs.View.{view}
use Rattle.sim_report_json.specs.Parts.{fix_data}
use Rattle.sim_report_json.proofs.places.fix_values.Given as goal

abbrev pub invariant-loop-a : goal.invariant-loop-a
invariant-loop-a l = map view l.values.items ≡ take l.a (map fix_data l.layout.fixes)
