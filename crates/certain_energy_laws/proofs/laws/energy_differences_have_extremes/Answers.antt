use Rattle.certain_energy_laws.proofs.Extremes.{least_difference, greatest_difference}
use Rattle.certain_energy_laws.proofs.laws.energy_differences_have_extremes.Goals as goal

pub returns-clause-least : goal.returns-clause-least
returns-clause-least c = least_difference

pub returns-clause-greatest : goal.returns-clause-greatest
returns-clause-greatest c = greatest_difference
