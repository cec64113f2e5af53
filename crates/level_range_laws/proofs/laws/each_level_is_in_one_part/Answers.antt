use Rattle.level_range_laws.proofs.InOne.{level_in_one}
use Rattle.level_range_laws.proofs.laws.each_level_is_in_one_part.Goals as goal

pub returns : goal.returns
returns c = level_in_one
