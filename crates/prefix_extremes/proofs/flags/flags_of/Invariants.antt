use Rattle.prefix_extremes.proofs.Flagged.{AreMade}
use Rattle.prefix_extremes.proofs.flags.flags_of.Given as goal

abbrev pub invariant-loop-k : goal.invariant-loop-k
invariant-loop-k l = AreMade l.problem l.k l.flags
