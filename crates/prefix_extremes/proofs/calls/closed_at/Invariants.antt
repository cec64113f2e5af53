use Rattle.prefix_extremes.proofs.Opening.{OpenBelow}
use Rattle.prefix_extremes.proofs.calls.closed_at.Given as goal

abbrev pub invariant-loop-k : goal.invariant-loop-k
invariant-loop-k l = OpenBelow l.problem l.prefix l.k
