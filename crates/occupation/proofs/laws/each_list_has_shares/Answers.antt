use Rattle.occupation.proofs.ListsOfShares.{HaveExtremes, some_list}
use Rattle.occupation.proofs.laws.each_list_has_shares.Goals as goal

pub returns : goal.returns
returns c =
    let have : HaveExtremes = record { least = c.energy_differences_have_extremes.ensures.least; greatest = c.energy_differences_have_extremes.ensures.greatest } in
    some_list have
