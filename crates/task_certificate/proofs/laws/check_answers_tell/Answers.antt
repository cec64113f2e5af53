use Rattle.task_certificate.proofs.Checking.{tells}
use Rattle.task_certificate.proofs.laws.check_answers_tell.Goals as goal

pub returns : goal.returns
returns c = tells (record {
  fits = c.read_texts_fit.ensures.lists;
  ground = c.sound_lists_are_ground_lists.ensures;
  holds = c.ground_lists_hold.ensures;
})
