use Rattle.level_range_laws.proofs.OneList.{one_list}
use Rattle.level_range_laws.proofs.laws.one_list_of_candidates.Goals as goal

pub returns : goal.returns
returns c = one_list
