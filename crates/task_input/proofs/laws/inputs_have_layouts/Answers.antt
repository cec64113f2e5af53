use Rattle.task_input.proofs.Told.{layout_there}
use Rattle.task_input.proofs.laws.inputs_have_layouts.Goals as goal

pub returns : goal.returns
returns c = layout_there
