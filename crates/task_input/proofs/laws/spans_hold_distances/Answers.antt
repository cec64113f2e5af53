use Rattle.task_input.proofs.Told.{distances_held}
use Rattle.task_input.proofs.laws.spans_hold_distances.Goals as goal

pub returns : goal.returns
returns c = distances_held
