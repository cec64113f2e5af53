use Rattle.std.proofs.Common.{subst, arith}
use Rattle.std.proofs.lemmas.List.{take_all}
use Rattle.ground_report.specs.Energies.{AreEnergies}
use Rattle.ground_report.proofs.EnergyLists.{one_more, one_each}
use Rattle.ground_report.proofs.energies.energy_spans.Goals as goal

pub loop-j-preserved : goal.loop-j-preserved
loop-j-preserved c = one_more c.args.problem.now c.args.list.now c.loop-j.j _ c.loop-j.spans.items _ c.in_ok-span.span c.entry.ensures c.loop-j.invariant c.in_ok-span.ensures c.in_ok-push.ensures.items

pub returns-clause-one_each : goal.returns-clause-one_each
returns-clause-one_each c =
    one_each c.args.problem.now c.args.list.now _ (subst (λ es. AreEnergies c.args.problem.now es c.loop-j.spans.items) (take_all c.loop-j.j c.args.list.now (omega arith)) c.loop-j.invariant)
