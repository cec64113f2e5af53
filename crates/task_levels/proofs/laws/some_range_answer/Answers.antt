use Rattle.task_levels.proofs.SomeRange.{some_range_answer}
use Rattle.task_levels.proofs.laws.some_range_answer.Goals as goal

pub returns : goal.returns
returns c = some_range_answer (record {
  candidates = c.each_interval_has_candidates.ensures;
  parts = c.each_interval_has_printed_parts.ensures;
})
