use Rattle.task_levels.proofs.ToldRange.{tells_at_levels}
use Rattle.task_levels.proofs.laws.range_answers_tell.Goals as goal

pub returns : goal.returns
returns c = tells_at_levels (record {
  in_one = c.each_level_is_in_one_part.ensures;
  listed = c.answers_hold_ground_states.ensures.listed;
  certain = c.answers_hold_ground_states.ensures.certain;
})
