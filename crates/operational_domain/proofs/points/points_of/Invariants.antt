use Rattle.operational_domain.specs.Points.{ArePoints}
use Rattle.operational_domain.proofs.points.points_of.Given as goal

abbrev pub invariant-loop-k : goal.invariant-loop-k
invariant-loop-k l = ArePoints l.params l.grid l.k l.points.items
