use Rattle.certain_energy_laws.proofs.Lists.{beats_decided}
use Rattle.certain_energy_laws.proofs.laws.lists_beat_each_other_or_not.Goals as goal

pub returns : goal.returns
returns c = beats_decided
