use Rattle.std.proofs.Common.{◌≡◌, take}
use Rattle.gate_report.specs.GenText.{count_certain}
use Rattle.gate_report.proofs.generated.count_certain.Given as goal

abbrev pub invariant-loop-j : goal.invariant-loop-j
invariant-loop-j l = l.count ≡ count_certain (take l.j l.list)
