use Rattle.task_ground.proofs.Reports.{some_energies}
use Rattle.task_ground.proofs.laws.entries_have_energies.Goals as goal

pub returns : goal.returns
returns c = λ p es valid. some_energies c.energies_have_extremes.ensures p valid es
