use Rattle.task_gate.proofs.Given.{axes_of}
use Rattle.task_gate.proofs.laws.given_grids_are_grids.Goals as goal

pub returns : goal.returns
returns c = axes_of
