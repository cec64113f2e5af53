use Rattle.task_levels.proofs.Told.{tells_shares}
use Rattle.task_levels.proofs.laws.occupation_answers_tell.Goals as goal

pub returns : goal.returns
returns c = tells_shares (record {
  listed = c.near_lists_are_listed.ensures;
  encloses = c.rounded_lists_enclose_the_intervals.ensures.encloses;
  parts = c.rounded_lists_enclose_the_intervals.ensures.parts;
})
