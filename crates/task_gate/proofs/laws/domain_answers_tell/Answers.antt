use Rattle.task_gate.proofs.Given.{told_domain}
use Rattle.task_gate.proofs.laws.domain_answers_tell.Goals as goal

pub returns : goal.returns
returns c = told_domain (record { working = c.working_gates_read_their_bits.ensures; failing = c.failing_gates_miss_a_bit.ensures })
