-- levels that charges, intervals and prefixes refuse
use Rattle.std.proofs.Common.{◌≡◌, pos, neg_ℤ, [], ◌∷◌, arith}
use Rattle.std.proofs.lemmas.Int.{ints}
use Rattle.charge_model.specs.declared.charge.Charge.TheVariants.{Neg, Neutral, Pos}
use Rattle.charge_model.specs.Problem.{class_of, near_class_of}
use Rattle.charge_model.specs.Prefixes.{least_fixed, least_potential, greatest_fixed, greatest_potential, may_be_positive}
use Rattle.charge_model.proofs.OneSite.{one_site}
use Rattle.level_range_laws.specs.RangePrefixes.{can_be_in, is_open_in}
use Rattle.level_range_laws.proofs.StandardFacts.{three_levels}
use Rattle.level_candidates.specs.Ends.{Allows}
use Rattle.level_candidates.specs.Plans.{AreLevels}
use Rattle.level_candidates.specs.Subtree.{prefixes_under, IsRangePath}
use Rattle.level_candidates.proofs.StandardFacts.{three_prefixes_there}

negative_no_higher : Allows Neg (pos 5) (neg_ℤ (pos 3)) (neg_ℤ (pos 7)) (neg_ℤ (pos 2)) → ⊥
negative_no_higher h = omega (arith, ints, h)

neutral_no_lower : Allows Neutral (pos 5) (neg_ℤ (pos 3)) (neg_ℤ (pos 7)) (neg_ℤ (pos 8)) → ⊥
neutral_no_lower h = let low = h.1 in omega (arith, ints, low)

neutral_no_higher : Allows Neutral (pos 5) (neg_ℤ (pos 3)) (neg_ℤ (pos 7)) (pos 3) → ⊥
neutral_no_higher h = let high = h.0 in omega (arith, ints, high)

positive_no_lower : Allows Pos (pos 5) (neg_ℤ (pos 3)) (neg_ℤ (pos 7)) (neg_ℤ (pos 3)) → ⊥
positive_no_lower h = omega (arith, ints, h)

no_level_so_low : AreLevels (record { first = neg_ℤ (pos 2000000000001); last = pos 0 }) → ⊥
no_level_so_low are = let small = are.first_small in omega (arith, small)

no_other_count : prefixes_under one_site three_levels [] ≡ 4 → ⊥
no_other_count e = let three = three_prefixes_there in omega (arith, three, e)

no_positive_path : IsRangePath one_site three_levels [] (Pos ∷ []) → ⊥
unfolding is_open_in can_be_in greatest_potential greatest_fixed may_be_positive least_potential least_fixed class_of near_class_of
no_positive_path path = let wrong = path.1 in absurd (cc)
