use Rattle.std.proofs.Common.{ℤ}
use Rattle.level_range_laws.specs.Levels.{IsIn, IsPossibleAt}
use Rattle.level_candidates.proofs.ends.may_be_candidate.Given as goal

abbrev pub invariant-loop-k : goal.invariant-loop-k
invariant-loop-k l = (m : ℤ) → IsIn l.fn.levels m → IsPossibleAt l.problem m l.track.prefix → IsIn l.left m
