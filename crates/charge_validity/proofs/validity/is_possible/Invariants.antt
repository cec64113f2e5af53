use Rattle.std.proofs.Common.{ℕ, ◌<◌}
use Rattle.charge_validity.specs.OwnMarks.{AreTestsPossible, AreHopsPossible}
use Rattle.charge_validity.proofs.validity.is_possible.Given as goal

abbrev pub invariant-loop-i : goal.invariant-loop-i
invariant-loop-i l = record {
  tests : (k : ℕ) → k < l.i → AreTestsPossible l.problem l.charges k;
  hops : (k : ℕ) → k < l.i → AreHopsPossible l.problem l.charges k;
}
