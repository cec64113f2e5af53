use Rattle.share_laws.proofs.LowLemmas.{lows_at_most_one}
use Rattle.share_laws.proofs.laws.lower_ends_add_up_to_at_most_one.Goals as goal

pub returns : goal.returns
returns c = lows_at_most_one c.closed_sums_are_greater.ensures
