use Rattle.std.proofs.Common.{◌≡◌, map, take}
use Rattle.serde_json.specs.View.{view}
use Rattle.sim_report_json.specs.Parts.{site_data}
use Rattle.sim_report_json.proofs.places.site_values.Given as goal

abbrev pub invariant-loop-i : goal.invariant-loop-i
invariant-loop-i l = map view l.values.items ≡ take l.i (map site_data l.layout.sites)
