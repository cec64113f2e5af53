use Rattle.narrower_laws.proofs.Lengths.{no_longer_list}
use Rattle.narrower_laws.proofs.laws.narrower_ground_lists_are_no_longer.Goals as goal

pub returns : goal.returns
returns c = no_longer_list
