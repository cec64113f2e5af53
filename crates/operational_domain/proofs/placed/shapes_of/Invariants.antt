use Rattle.operational_domain.specs.Placed.{AreShapes}
use Rattle.operational_domain.proofs.placed.shapes_of.Given as goal

abbrev pub invariant-loop-k : goal.invariant-loop-k
invariant-loop-k l = AreShapes l.layout l.gate l.k l.shapes.items
