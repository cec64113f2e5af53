use Rattle.task_input.proofs.OneInput.{no_fault}
use Rattle.task_input.proofs.laws.no_fault.Goals as goal

pub returns : goal.returns
returns c = no_fault c.no_fault.ensures c.no_sqd_fault.ensures c.no_fault-2.ensures
