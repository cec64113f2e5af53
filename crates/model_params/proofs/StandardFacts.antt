-- the parameters where nothing is set
use Rattle.std.proofs.Common.{pos, arith}
use Rattle.std.proofs.lemmas.Int.{ints}
use Rattle.model_params.specs.declared.params.Params.{Params}
use Rattle.model_params.specs.Quantities.{IsInRangeOf, coulomb_number, level_depth, level_gap, permittivity, screening_length}
use Rattle.model_params.specs.Params.{AreParamsInRange}

preset_coulomb : IsInRangeOf coulomb_number (pos 14399645)
preset_coulomb = record { from = omega (arith, ints); to = omega (arith, ints) }

preset_permittivity : IsInRangeOf permittivity (pos 56000)
preset_permittivity = record { from = omega (arith, ints); to = omega (arith, ints) }

preset_length : IsInRangeOf screening_length (pos 50000)
preset_length = record { from = omega (arith, ints); to = omega (arith, ints) }

preset_depth : IsInRangeOf level_depth (pos 320000000000)
preset_depth = record { from = omega (arith, ints); to = omega (arith, ints) }

preset_gap : IsInRangeOf level_gap (pos 590000000000)
preset_gap = record { from = omega (arith, ints); to = omega (arith, ints) }

pub preset_in_range : AreParamsInRange (pos 14399645) (pos 56000) (pos 50000) (pos 320000000000) (pos 590000000000) 3
preset_in_range = record {
  coulomb_within = preset_coulomb;
  eps_within = preset_permittivity;
  lam_within = preset_length;
  depth_within = preset_depth;
  gap_within = preset_gap;
  base_from = omega arith;
  base_to = omega arith;
}

-- a permittivity of 5.6, a screening length of 5 nm, a depth of 0.32 V and a gap of 0.59 V
abbrev pub preset : Params
preset = record {
  coulomb = pos 14399645;
  eps = pos 56000;
  lam = pos 50000;
  depth = pos 320000000000;
  gap = pos 590000000000;
  base = 3;
  in_range = preset_in_range;
}
