use Rattle.std.proofs.Common.{ℕ, ◌<◌}
use Rattle.charge_validity.specs.OwnMarks.{AreTestsCertain}
use Rattle.charge_validity.proofs.marking.first_test.Given as goal

abbrev pub invariant-loop-i : goal.invariant-loop-i
invariant-loop-i l = (k : ℕ) → k < l.i → AreTestsCertain l.problem l.charges k
