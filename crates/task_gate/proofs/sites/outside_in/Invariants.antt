use Rattle.std.proofs.Common.{take}
use Rattle.std.specs.Prelude.{All}
use Rattle.task_gate.specs.GateSite.{ArePlacesBelow}
use Rattle.task_gate.proofs.Places.{GoesBack}
use Rattle.task_gate.proofs.sites.outside_in.Given as goal

abbrev pub invariant-loop-k : goal.invariant-loop-k
invariant-loop-k l = record {
  all : All (ArePlacesBelow l.sites) (take l.k l.pairs);
  back : GoesBack l.sites l.pairs l.k;
}
