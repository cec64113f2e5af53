use Rattle.std.proofs.Common.{take}
use Rattle.ground_report.specs.Energies.{AreEnergies}
use Rattle.ground_report.proofs.energies.energy_spans.Given as goal

abbrev pub invariant-loop-j : goal.invariant-loop-j
invariant-loop-j l = AreEnergies l.problem (take l.j l.list) l.spans.items
