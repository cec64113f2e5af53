use Rattle.task_input.proofs.OneInput.{same_fault}
use Rattle.task_input.proofs.laws.one_fault.Goals as goal

pub returns : goal.returns
returns c = same_fault c.one_fault.ensures c.one_sqd_fault.ensures c.one_fault-2.ensures
