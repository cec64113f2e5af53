use Rattle.std.proofs.Common.{◌≡◌, drop}
use Rattle.gate_report.specs.Answers.{overall}
use Rattle.gate_report.proofs.answers.overall.Given as goal

abbrev pub invariant-loop-k : goal.invariant-loop-k
invariant-loop-k l = overall l.k (drop l.k l.truth) ≡ overall 0 l.truth
