use Rattle.task_input.proofs.Told.{layout_is_one}
use Rattle.task_input.proofs.laws.input_layouts_are_layouts.Goals as goal

pub returns : goal.returns
returns c = layout_is_one
