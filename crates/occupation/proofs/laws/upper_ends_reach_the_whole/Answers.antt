use Rattle.occupation.proofs.FactorLemmas.{AreLaws}
use Rattle.occupation.proofs.ListsOfShares.{HaveExtremes}
use Rattle.occupation.proofs.WeightLemmas.{highs_reach_the_whole}
use Rattle.occupation.proofs.laws.upper_ends_reach_the_whole.Goals as goal

pub returns : goal.returns
returns c p kt e l shares valid some are =
    let laws : AreLaws = record {
      sized = c.rounded_sums_are_sized.ensures;
      down = c.rounded_sums_enclose_the_series.ensures.down;
      up = c.rounded_sums_enclose_the_series.ensures.up;
    } in
    let have : HaveExtremes = record { least = c.energy_differences_have_extremes.ensures.least; greatest = c.energy_differences_have_extremes.ensures.greatest } in
    highs_reach_the_whole laws c.closed_sums_are_greater.ensures have c.problems_have_tables.ensures c.energies_are_small.ensures p kt e l shares valid some are
