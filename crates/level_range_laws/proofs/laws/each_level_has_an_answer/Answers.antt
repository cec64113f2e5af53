use Rattle.level_range_laws.proofs.Exist.{answer_exists}
use Rattle.level_range_laws.proofs.laws.each_level_has_an_answer.Goals as goal

pub returns : goal.returns
returns c = answer_exists
