use Rattle.task_gen.proofs.Told.{tells}
use Rattle.task_gen.proofs.laws.gen_answers_tell.Goals as goal

pub returns : goal.returns
returns c = tells c.ground_lists_hold.ensures
