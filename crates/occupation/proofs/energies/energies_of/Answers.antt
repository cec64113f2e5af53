use Rattle.std.proofs.lemmas.List.Elements.{All-push}
use Rattle.charge_model.specs.Rules.{IsChargeList}
use Rattle.ground_entries.specs.Seen.{seen}
use Rattle.occupation.specs.Energies.{IsEnergyOf}
use Rattle.occupation.proofs.ListLemmas.{holds_at, energies_push}
use Rattle.occupation.proofs.energies.energies_of.Goals as goal

pub energy_of-requires : goal.energy_of-requires
energy_of-requires c = holds_at (IsChargeList c.args.problem.now) c.args.list.now c.loop-j.j (seen c.entry.result.now) c.requires c.entry.ensures

pub loop-j-preserved : goal.loop-j-preserved
loop-j-preserved c =
    rw (c.in_ok-push.ensures.items) (record {
      energies = All-push (IsEnergyOf c.args.problem.now) _ c.in_ok-entry.entry c.loop-j.invariant.energies c.in_ok-entry.ensures.energy;
      charges = energies_push _ c.in_ok-entry.entry c.args.list.now c.loop-j.j (seen c.entry.result.now) c.loop-j.invariant.charges c.entry.ensures c.in_ok-entry.ensures.charges;
    })
