use Rattle.std.proofs.Common.{◌≡◌}
use Rattle.charge_model.specs.Tree.{all_below}
use Rattle.prefix_extremes.specs.Closed.{keeps_open}
use Rattle.prefix_rows.proofs.verdicts.rows_open.Given as goal

abbrev pub invariant-loop-k : goal.invariant-loop-k
invariant-loop-k l = l.all ≡ all_below l.k (keeps_open l.problem l.prefix)

abbrev pub invariant-loop-k-2 : goal.invariant-loop-k-2
invariant-loop-k-2 l = l.all ≡ all_below l.k (keeps_open l.problem l.prefix)
