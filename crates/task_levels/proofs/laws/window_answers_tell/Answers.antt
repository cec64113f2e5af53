use Rattle.task_levels.proofs.Told.{tells}
use Rattle.task_levels.proofs.laws.window_answers_tell.Goals as goal

pub returns : goal.returns
returns c = tells (record {
  listed = c.near_lists_are_listed.ensures;
  certain = c.certain_entries_are_near_the_ground.ensures;
  unresolved = c.unresolved_entries_fail_within.ensures;
})
