use Rattle.std.proofs.Common.{◌≡◌, ℕ, ◌<◌, true}
use Rattle.prefix_extremes.specs.Closed.{keeps_open}
use Rattle.prefix_rows.proofs.verdicts.refused_at.Given as goal

abbrev pub invariant-loop-k : goal.invariant-loop-k
invariant-loop-k l = (j : ℕ) → j < l.k → keeps_open l.problem l.longer j ≡ true
