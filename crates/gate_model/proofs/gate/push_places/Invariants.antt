use Rattle.std.proofs.Common.{◌≡◌, ◌++◌, take}
use Rattle.gate_model.specs.Logic.{places_in}
use Rattle.gate_model.proofs.gate.push_places.Given as goal

abbrev pub invariant-loop-k : goal.invariant-loop-k
invariant-loop-k l = l.places.items ≡ l.initial.places.items ++ places_in (take l.k l.pairs)
