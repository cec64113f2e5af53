use Rattle.occupation.proofs.ListsOfShares.{one_list}
use Rattle.occupation.proofs.laws.lists_have_one_list_of_shares.Goals as goal

pub returns : goal.returns
returns c = one_list
