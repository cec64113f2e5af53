use Rattle.std.proofs.Common.{◌≡◌, ◌++◌, drop, string_bytes}
use Rattle.gate_report.proofs.Behind.{patterns_due}
use Rattle.gate_report.proofs.truth_lines.pattern_lines.Given as goal

abbrev pub invariant-loop-k : goal.invariant-loop-k
invariant-loop-k l = string_bytes l.text ++ patterns_due l.k (drop l.k l.truth) ≡ patterns_due 0 l.truth
