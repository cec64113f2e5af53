-- what closes no site
use Rattle.std.proofs.Common.{[], ◌∷◌, arith}
use Rattle.charge_model.specs.declared.charge.Charge.TheVariants.{Neg}
use Rattle.charge_model.specs.Problem.{class_of, near_class_of}
use Rattle.charge_model.specs.Prefixes.{least_fixed, greatest_fixed, least_potential, greatest_potential, may_be_positive, can_be}
use Rattle.prefix_extremes.specs.Closed.{IsFirstClosed}
use Rattle.prefix_extremes.proofs.StandardFacts.{neighbours}

-- a site that can have a charge closes nothing
no_open_site : IsFirstClosed neighbours [] 0 → ⊥
unfolding can_be least_potential greatest_potential least_fixed greatest_fixed may_be_positive class_of near_class_of
no_open_site is = let e = is.closed in cc

-- a later site is not the first
no_later_site : IsFirstClosed neighbours (Neg ∷ Neg ∷ []) 1 → ⊥
unfolding can_be least_potential greatest_potential least_fixed greatest_fixed may_be_positive class_of near_class_of
no_later_site is = let e = is.before 0 (omega arith) in cc

-- a site that the problem lacks
no_other_site : IsFirstClosed neighbours [] 3 → ⊥
no_other_site is = omega (arith, is.site)
