use Rattle.share_laws.proofs.HighLemmas.{highs_at_least_one}
use Rattle.share_laws.proofs.laws.upper_ends_add_up_to_at_least_one.Goals as goal

pub returns : goal.returns
returns c = highs_at_least_one c.closed_sums_are_greater.ensures c.sums_grow_with_the_order.ensures c.closed_sums_fall_with_the_order.ensures
