-- what is no parameter: each range has both its ends
use Rattle.std.proofs.Common.{ℕ, ℤ, pos, negsuc, arith}
use Rattle.std.proofs.lemmas.Int.{ints}
use Rattle.model_params.specs.Params.{AreParamsInRange}

module _ (coulomb eps lam depth gap : ℤ) (base : ℕ) where
  coulomb_too_small : AreParamsInRange (pos 13999999) eps lam depth gap base → ⊥
  coulomb_too_small is = omega (arith, ints, is.coulomb_within.from)

  coulomb_too_great : AreParamsInRange (pos 15000001) eps lam depth gap base → ⊥
  coulomb_too_great is = omega (arith, ints, is.coulomb_within.to)

  eps_too_small : AreParamsInRange coulomb (pos 9999) lam depth gap base → ⊥
  eps_too_small is = omega (arith, ints, is.eps_within.from)

  eps_too_great : AreParamsInRange coulomb (pos 1000001) lam depth gap base → ⊥
  eps_too_great is = omega (arith, ints, is.eps_within.to)

  lam_too_small : AreParamsInRange coulomb eps (pos 999) depth gap base → ⊥
  lam_too_small is = omega (arith, ints, is.lam_within.from)

  lam_too_great : AreParamsInRange coulomb eps (pos 10000001) depth gap base → ⊥
  lam_too_great is = omega (arith, ints, is.lam_within.to)

  depth_below_0 : AreParamsInRange coulomb eps lam (negsuc 0) gap base → ⊥
  depth_below_0 is = omega (arith, ints, is.depth_within.from)

  depth_too_great : AreParamsInRange coulomb eps lam (pos 2000000000001) gap base → ⊥
  depth_too_great is = omega (arith, ints, is.depth_within.to)

  gap_below_0 : AreParamsInRange coulomb eps lam depth (negsuc 0) base → ⊥
  gap_below_0 is = omega (arith, ints, is.gap_within.from)

  gap_too_great : AreParamsInRange coulomb eps lam depth (pos 2000000000001) base → ⊥
  gap_too_great is = omega (arith, ints, is.gap_within.to)

  base_too_small : AreParamsInRange coulomb eps lam depth gap 1 → ⊥
  base_too_small is = omega (arith, is.base_from)

  base_too_great : AreParamsInRange coulomb eps lam depth gap 4 → ⊥
  base_too_great is = omega (arith, is.base_to)
