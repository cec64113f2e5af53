-- spans worked by hand: neighbours along a row, the second neighbours, and a pair far apart
use Rattle.std.proofs.Common.{◌*◌, ◌^◌, ℤ, pos, refl, arith}
use Rattle.std.proofs.lemmas.Int.{ints}
use Rattle.root_exp.specs.Series.{divisor_of, series_sum, sum_to, term_down, term_up}
use Rattle.model_params.specs.declared.params.Params.{Params}
use Rattle.model_params.specs.Quantities.{IsInRangeOf, screening_length}
use Rattle.model_params.specs.Params.{AreParamsInRange}
use Rattle.screened_coulomb.specs.Potential.{HoldsOrder}
use Rattle.screened_coulomb.specs.Rounding.{IsRoundedSpan}

-- usual parameters with any screening length
pub usual_in_range : (lam : ℤ) → IsInRangeOf screening_length lam → AreParamsInRange (pos 14399645) (pos 56000) lam (pos 320000000000) (pos 590000000000) 3
usual_in_range lam within = record {
  coulomb_within = record { from = omega (arith, ints); to = omega (arith, ints) };
  eps_within = record { from = omega (arith, ints); to = omega (arith, ints) };
  lam_within = within;
  depth_within = record { from = omega (arith, ints); to = omega (arith, ints) };
  gap_within = record { from = omega (arith, ints); to = omega (arith, ints) };
  base_from = omega arith;
  base_to = omega arith;
}

-- the usual parameters with this screening length
abbrev pub with_lam : (lam : ℤ) → IsInRangeOf screening_length lam → Params
with_lam lam within = record {
  coulomb = pos 14399645;
  eps = pos 56000;
  lam = lam;
  depth = pos 320000000000;
  gap = pos 590000000000;
  base = 3;
  in_range = usual_in_range lam within;
}

-- a screening length of 5 nm, and one of 0.1 nm
abbrev pub usual : Params
usual = with_lam (pos 50000) (record { from = omega (arith, ints); to = omega (arith, ints) })

abbrev pub screened : Params
screened = with_lam (pos 1000) (record { from = omega (arith, ints); to = omega (arith, ints) })

neighbours : IsRoundedSpan usual (384 * 384) (pos 620124254312) (pos 620124254313)
unfolding sum_to term_down term_up
neighbours = record {
  root = 384 * 2 ^ 40;
  root_is = record { root = omega arith; greatest = omega arith };
  lo_is = refl;
  hi_is = refl;
}

second_neighbours : IsRoundedSpan usual (768 * 768) (pos 287140799939) (pos 287140799940)
unfolding sum_to term_down term_up
second_neighbours = record {
  root = 768 * 2 ^ 40;
  root_is = record { root = omega arith; greatest = omega arith };
  lo_is = refl;
  hi_is = refl;
}

far_apart : IsRoundedSpan screened ((384 * 5000) * (384 * 5000)) (pos 0) (pos 1)
unfolding sum_to term_down term_up
far_apart = record {
  root = 384 * 5000 * 2 ^ 40;
  root_is = record { root = omega arith; greatest = omega arith };
  lo_is = refl;
  hi_is = refl;
}

-- the interval of order 96 of neighbours
neighbour_order : HoldsOrder usual (pos 620124254312) (pos 620124254313) 96 (384 * 2 ^ 96)
unfolding divisor_of series_sum
neighbour_order = record { low = record { le = tt }; high = record { le = tt } }
