use Rattle.level_range_laws.proofs.Exist.{candidates_exist}
use Rattle.level_range_laws.proofs.laws.each_interval_has_candidates.Goals as goal

pub returns : goal.returns
returns c = candidates_exist
