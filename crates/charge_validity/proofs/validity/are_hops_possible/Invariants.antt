use Rattle.std.proofs.Common.{ℕ, ◌<◌}
use Rattle.charge_validity.specs.OwnMarks.{IsHopPossible}
use Rattle.charge_validity.proofs.validity.are_hops_possible.Given as goal

abbrev pub invariant-loop-j : goal.invariant-loop-j
invariant-loop-j l = (k : ℕ) → k < l.j → IsHopPossible l.problem l.charges l.i k
