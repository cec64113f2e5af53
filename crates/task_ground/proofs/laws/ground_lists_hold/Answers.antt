use Rattle.task_ground.proofs.Told.{holds_by}
use Rattle.task_ground.proofs.laws.ground_lists_hold.Goals as goal

pub returns : goal.returns
returns c = holds_by (record {
  listed = c.ground_states_are_listed.ensures;
  certain = c.certain_entries_are_ground_states.ensures;
  unresolved = c.unresolved_entries_fail.ensures;
})
