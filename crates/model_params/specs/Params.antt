-- which numbers are the parameters of potentials and levels
use Rattle.std.specs.Prelude.{ℕ, ℤ, ◌≤◌}
use Rattle.model_params.specs.Quantities.{IsInRangeOf, coulomb_number, level_depth, level_gap, permittivity, screening_length}

-- each parameter is in the range of its quantity, and the base is 2 or 3
pub record AreParamsInRange (coulomb eps lam depth gap : ℤ) (base : ℕ) : Type 0 where
  pub coulomb_within : IsInRangeOf coulomb_number coulomb
  pub eps_within : IsInRangeOf permittivity eps
  pub lam_within : IsInRangeOf screening_length lam
  pub depth_within : IsInRangeOf level_depth depth
  pub gap_within : IsInRangeOf level_gap gap
  pub base_from : 2 ≤ base
  pub base_to : base ≤ 3
