-- levels of charges and prefixes worked by hand
use Rattle.std.proofs.Common.{◌≡◌, pos, neg_ℤ, [], ◌∷◌, refl, arith}
use Rattle.std.proofs.lemmas.Int.{ints}
use Rattle.charge_model.specs.declared.charge.Charge.TheVariants.{Neg, Neutral, Pos}
use Rattle.charge_model.specs.Problem.{class_of, near_class_of}
use Rattle.charge_model.specs.Prefixes.{least_fixed, least_potential, greatest_fixed, greatest_potential, may_be_positive}
use Rattle.charge_model.proofs.OneSite.{one_site}
use Rattle.level_range_laws.specs.RangePrefixes.{can_be_in, is_open_in}
use Rattle.level_range_laws.proofs.StandardFacts.{three_levels}
use Rattle.level_candidates.specs.Ends.{Allows}
use Rattle.level_candidates.specs.Plans.{AreLevels, raise_of}
use Rattle.level_candidates.specs.Subtree.{prefixes_under, IsRangePath}

-- a potential from -7 to -3 and a gap of 5: negative up to the greatest, neutral from the least up to the greatest and the gap
negative_up_to_it : Allows Neg (pos 5) (neg_ℤ (pos 3)) (neg_ℤ (pos 7)) (neg_ℤ (pos 3))
negative_up_to_it = omega (arith, ints)

neutral_between : Allows Neutral (pos 5) (neg_ℤ (pos 3)) (neg_ℤ (pos 7)) (pos 2)
neutral_between = (omega (arith, ints), omega (arith, ints))

positive_from_it : Allows Pos (pos 5) (neg_ℤ (pos 3)) (neg_ℤ (pos 7)) (neg_ℤ (pos 2))
positive_from_it = omega (arith, ints)

pub three_levels_are : AreLevels three_levels
three_levels_are = record { first_small = omega arith; last_small = omega arith }

-- one site alone
pub three_prefixes_there : prefixes_under one_site three_levels [] ≡ 3
unfolding prefixes_under is_open_in can_be_in greatest_potential greatest_fixed may_be_positive least_potential least_fixed class_of near_class_of
three_prefixes_there = refl

no_raise : raise_of one_site (pos 0) 0 0 ≡ pos 0
unfolding raise_of
no_raise = refl

neutral_path : IsRangePath one_site three_levels [] (Neutral ∷ [])
unfolding is_open_in can_be_in greatest_potential greatest_fixed may_be_positive least_potential least_fixed class_of near_class_of
neutral_path = (refl, refl)
