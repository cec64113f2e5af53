-- a problem from its parts, worked by hand: three sites and two fixed charges
use Rattle.std.proofs.Common.{◌≡◌, pos, negsuc, [], ◌∷◌, refl, arith}
use Rattle.std.proofs.lemmas.Int.{ints}
use Rattle.charge_model.specs.Problem.{Problem, class_of, near_class_of, fixed_at, lo_in, hi_in}
use Rattle.potential_problem.specs.Made.{problem_from}

abbrev made : Problem
made = problem_from 3 (2 ∷ 1 ∷ 0 ∷ []) (negsuc 0 ∷ pos 3 ∷ []) (0 ∷ 1 ∷ 2 ∷ 0 ∷ 1 ∷ 2 ∷ [])
    (record { lo = pos 50; hi = pos 52; in_order = omega (arith, ints) } ∷ []) (record { base = 3; mu_minus = negsuc 59; mu_plus = negsuc 999 })

made_levels : (made.sites ≡ 3) × (made.base ≡ 3) × (made.mu_minus ≡ negsuc 59) × (made.mu_plus ≡ negsuc 999)
made_levels = (refl, refl, refl, refl)

made_classes : (class_of made 0 2 ≡ 1) × (class_of made 2 0 ≡ 1) × (class_of made 1 2 ≡ 0)
unfolding class_of
made_classes = (refl, refl, refl)

made_near : (near_class_of made 1 0 ≡ 2) × (near_class_of made 1 1 ≡ 0) × (fixed_at made 1 ≡ pos 3)
unfolding near_class_of
made_near = (refl, refl, refl)

made_span : (lo_in made.spans 0 ≡ pos 50) × (hi_in made.spans 0 ≡ pos 52)
made_span = (refl, refl)
