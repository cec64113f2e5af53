use Rattle.certain_energy_laws.proofs.Lists.{valid_decided}
use Rattle.certain_energy_laws.proofs.laws.lists_are_valid_or_not.Goals as goal

pub returns : goal.returns
returns c = valid_decided
