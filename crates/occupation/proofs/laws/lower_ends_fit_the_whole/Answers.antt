use Rattle.occupation.proofs.FactorLemmas.{AreLaws}
use Rattle.occupation.proofs.ListsOfShares.{HaveExtremes}
use Rattle.occupation.proofs.TotalLemmas.{lows_fit_the_whole}
use Rattle.occupation.proofs.laws.lower_ends_fit_the_whole.Goals as goal

pub returns : goal.returns
returns c p kt l shares valid some are =
    let laws : AreLaws = record {
      sized = c.rounded_sums_are_sized.ensures;
      down = c.rounded_sums_enclose_the_series.ensures.down;
      up = c.rounded_sums_enclose_the_series.ensures.up;
    } in
    let have : HaveExtremes = record { least = c.energy_differences_have_extremes.ensures.least; greatest = c.energy_differences_have_extremes.ensures.greatest } in
    lows_fit_the_whole laws c.closed_sums_are_greater.ensures have p valid kt some l shares are
