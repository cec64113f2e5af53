use Rattle.gate_model.proofs.GateLemmas.{DifferBelow}
use Rattle.gate_model.proofs.gate.all_differ.Given as goal

abbrev pub invariant-loop-j : goal.invariant-loop-j
invariant-loop-j l = DifferBelow l.places l.j
