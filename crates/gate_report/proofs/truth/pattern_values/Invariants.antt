use Rattle.std.proofs.Common.{◌≡◌, ◌++◌, drop, map}
use Rattle.serde_json.specs.View.{view}
use Rattle.gate_report.specs.GateJson.{patterns_data}
use Rattle.gate_report.proofs.truth.pattern_values.Given as goal

abbrev pub invariant-loop-k : goal.invariant-loop-k
invariant-loop-k l = map view l.values.items ++ patterns_data l.k (drop l.k l.truth) ≡ patterns_data 0 l.truth
