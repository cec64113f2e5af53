-- what is no span of a distance
use Rattle.std.proofs.Common.{◌*◌, ◌^◌, pos}
use Rattle.root_exp.specs.Series.{divisor_of, series_sum}
use Rattle.screened_coulomb.specs.Potential.{HoldsOrder}
use Rattle.screened_coulomb.proofs.StandardFacts.{usual}

-- one unit too far inside at either end
lo_too_great : HoldsOrder usual (pos 620124254313) (pos 620124254313) 96 (384 * 2 ^ 96) → ⊥
unfolding divisor_of series_sum
lo_too_great is = is.low.le

hi_too_small : HoldsOrder usual (pos 620124254312) (pos 620124254312) 96 (384 * 2 ^ 96) → ⊥
unfolding divisor_of series_sum
hi_too_small is = is.high.le
