use Rattle.task_levels.proofs.OneRange.{same_range_answer}
use Rattle.task_levels.proofs.laws.one_range_answer.Goals as goal

pub returns : goal.returns
returns c = same_range_answer (record {
  candidates = c.one_list_of_candidates.ensures;
  parts = c.one_list_of_printed_parts.ensures;
})
