use Rattle.task_gate.proofs.Given.{told_truth}
use Rattle.task_gate.proofs.laws.truth_answers_tell.Goals as goal

pub returns : goal.returns
returns c = told_truth (record {
  working = c.working_patterns_read_their_bits.ensures;
  failing = c.failing_patterns_miss_a_bit.ensures;
  tables = c.working_tables_work_at_each_pattern.ensures;
})
