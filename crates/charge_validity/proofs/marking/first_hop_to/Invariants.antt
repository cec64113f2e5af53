use Rattle.std.proofs.Common.{ℕ, ◌<◌}
use Rattle.charge_validity.specs.OwnMarks.{IsHopCertain}
use Rattle.charge_validity.proofs.marking.first_hop_to.Given as goal

abbrev pub invariant-loop-j : goal.invariant-loop-j
invariant-loop-j l = (k : ℕ) → k < l.j → IsHopCertain l.problem l.charges l.i k
