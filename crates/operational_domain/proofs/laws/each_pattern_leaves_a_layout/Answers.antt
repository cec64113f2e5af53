use Rattle.operational_domain.proofs.Leaving.{left_layout, some_left}
use Rattle.operational_domain.proofs.laws.each_pattern_leaves_a_layout.Goals as goal

pub returns : goal.returns
returns c = λ whole gate k valid logic on.
    let left = some_left c.the_other_sites_stay.ensures whole gate k logic on in (left.0, left.1, left_layout whole gate k left.0 valid left.1)
