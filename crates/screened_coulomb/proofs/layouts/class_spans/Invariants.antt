use Rattle.screened_coulomb.specs.Layouts.{AreSpansBelow}
use Rattle.screened_coulomb.proofs.layouts.class_spans.Given as goal

abbrev pub invariant-loop-class : goal.invariant-loop-class
invariant-loop-class l = AreSpansBelow l.p l.classes.distances l.spans.items l.class
