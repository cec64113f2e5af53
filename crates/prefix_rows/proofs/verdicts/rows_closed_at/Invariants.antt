use Rattle.std.proofs.Common.{◌≡◌, ℕ, ◌<◌, true}
use Rattle.prefix_extremes.specs.Closed.{keeps_open}
use Rattle.prefix_rows.proofs.verdicts.rows_closed_at.Given as goal

abbrev pub invariant-loop-k : goal.invariant-loop-k
invariant-loop-k l = (j : ℕ) → j < l.k → keeps_open l.problem l.prefix j ≡ true

abbrev pub invariant-loop-k-2 : goal.invariant-loop-k-2
invariant-loop-k-2 l = (j : ℕ) → j < l.k → keeps_open l.problem l.prefix j ≡ true
