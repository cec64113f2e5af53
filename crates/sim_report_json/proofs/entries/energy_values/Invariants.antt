use Rattle.std.proofs.Common.{◌≡◌, map, take}
use Rattle.std.specs.Prelude.{zip}
use Rattle.serde_json.specs.View.{view}
use Rattle.sim_report_json.specs.GroundJson.{entry_with_energy}
use Rattle.sim_report_json.proofs.entries.energy_values.Given as goal

abbrev pub invariant-loop-j : goal.invariant-loop-j
invariant-loop-j l = map view l.values.items ≡ take l.j (map entry_with_energy (zip l.list l.spans))
