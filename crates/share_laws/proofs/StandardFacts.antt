-- the sums of two lower and of two upper ends worked by hand, and what is not at most or at least 1
use Rattle.std.proofs.Common.{◌≡◌, refl, arith}
use Rattle.charge_model.specs.Problem.{class_of, near_class_of}
use Rattle.charge_model.specs.Rules.{energy}
use Rattle.root_exp.specs.Series.{divisor_of, series_sum}
use Rattle.occupation.specs.Intervals.{lower_factor, lower_total, upper_factor, upper_total}
use Rattle.occupation.proofs.StandardFacts.{beside_fixed, both, only}
use Rattle.share_laws.specs.Sums.{IsAtLeastOne, IsAtMostOne, highs_at, lows_at, sum_of}

-- two lists whose energies are kT apart, at order 1: the lower ends are 1 / (1 + 1/2) and 1 / (11/4 + 1), and 2/3 + 4/15 is 14/15
lows : sum_of (lows_at beside_fixed 1 both only 1 both) ≡ record { top = 1512; bottom = 1620 }
unfolding sum_of upper_total upper_factor series_sum divisor_of energy class_of near_class_of
lows = refl

-- the upper ends are 1 / (1 + 4/11) and 1 / (2 + 1), and 11/15 + 1/3 is 16/15
highs : sum_of (highs_at beside_fixed 1 both only 1 both) ≡ record { top = 48; bottom = 45 }
unfolding sum_of lower_total lower_factor series_sum divisor_of energy class_of near_class_of
highs = refl

-- more than 1, less, and nothing divided by nothing
three_halves : IsAtMostOne (record { top = 3; bottom = 2 }) → ⊥
three_halves is = let wrong = is.at_most in omega (arith, wrong)

two_thirds : IsAtLeastOne (record { top = 2; bottom = 3 }) → ⊥
two_thirds is = let wrong = is.at_least in omega (arith, wrong)

no_fraction : IsAtMostOne (record { top = 0; bottom = 0 }) → ⊥
no_fraction is = let wrong = is.is_fraction in omega (arith, wrong)

divided_by_nothing : IsAtLeastOne (record { top = 1; bottom = 0 }) → ⊥
divided_by_nothing is = let wrong = is.is_fraction in omega (arith, wrong)
