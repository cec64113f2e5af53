-- each definition refuses a wrong value
use Rattle.std.proofs.Common.{◌≡◌, ap, Bool, Option, None, slice_index_or, refl, ℕ, zero, suc, pos, List, [], ◌∷◌, true, false, Some, codes, slice_get, arith}
use Rattle.std.proofs.lemmas.Int.{ints}
use Rattle.std.proofs.lemmas.Slice.Zip.{AllZip-long}
use Rattle.model_params.specs.Quantities.{permittivity}
use Rattle.gate_model.specs.declared.function.Function.{Function}
use Rattle.gate_model.specs.declared.grid.Axis.{Axis}
use Rattle.gate_model.specs.declared.pairs.PairOf.{PairOf}
use Rattle.gate_model.specs.Functions.{IsFunctionNamed, function_names}
use Rattle.gate_model.specs.Grids.{Axes, HasFarEnds, HasPointsIn}
use Rattle.gate_model.specs.GridTexts.{IsAxisText, IsCount, IsGridText, IsGridStart, IsGridStep}
use Rattle.gate_model.specs.Logic.{AllDiffer, HaveDistinctPlaces, IsLogic}
use Rattle.gate_model.specs.Pairs.{ArePairs, IsPair, IsPlace, parts}
use Rattle.gate_model.proofs.NamedFunctions.{one_named}
use Rattle.gate_model.proofs.StandardFacts.{named, of_two, pair, wire}

no_pair_of_one_word : (p : PairOf) → IsPair (codes "0") p → ⊥
no_pair_of_one_word p is = cc (is.words)

no_pair_of_three_words : (p : PairOf) → IsPair (codes "0:1:2") p → ⊥
no_pair_of_three_words p is = cc (is.words)

no_place_of_five_digits : (word : List ℕ) → IsPlace word 10000 → ⊥
no_place_of_five_digits word is = omega (arith, ints, is.to)

no_third_pair : (ps : List PairOf) → ArePairs 2 (codes "0:1,2:3,4:5") ps → ⊥
no_third_pair ps are = let three = AllZip-long IsPair (parts (codes "0:1,2:3,4:5")) ps are.each in omega (arith, three, are.few)

no_pairs_of_no_text : ArePairs 2 [] [] → ⊥
no_pairs_of_no_text are = are.each

-- two values that differ
true_is_not_false : ◌≡◌ {A = Bool} true false → ⊥
true_is_not_false e = cc

no_wrong_values : IsFunctionNamed (codes "and") 2 (of_two false true true true) → ⊥
no_wrong_values is = true_is_not_false (ap (λ (f : Function). slice_index_or f.table 1 false) (one_named (codes "and") 2 _ _ is named.and_2))

-- the first letter of a name
abbrev first_letter : Option (List ℕ) → ℕ
first_letter None = 0
first_letter (Some name) = slice_index_or name 0 0

no_name_of_two_bits_for_one : (f : Function) → IsFunctionNamed (codes "and") 1 f → ⊥
no_name_of_two_bits_for_one f is = by is.number (ap first_letter is.named)
  where
    by : (n : ℕ) → first_letter (slice_get (function_names 1) n) ≡ 97 → ⊥
    by zero e = omega (arith, e)
    by (suc zero) e = omega (arith, e)
    by (suc (suc zero)) e = omega (arith, e)
    by (suc (suc (suc zero))) e = omega (arith, e)
    by (suc (suc (suc (suc n)))) e = omega (arith, e)

no_name_without_inputs : (f : Function) → IsFunctionNamed (codes "one") 0 f → ⊥
no_name_without_inputs f is = cc (is.named)

no_point_above_the_range : HasPointsIn permittivity (record { start = pos 1000000; step = pos 1; count = 2 }) → ⊥
no_point_above_the_range inside = let last = inside 1 (omega arith) in omega (arith, ints, last.to)

no_start_below_the_range : (word : List ℕ) → IsGridStart permittivity word (pos 9999) → ⊥
no_start_below_the_range word is = omega (arith, ints, is.from)

no_step_of_zero : (word : List ℕ) → IsGridStep word (pos 0) → ⊥
no_step_of_zero word is = omega (arith, ints, is.from)

no_count_of_zero : (word : List ℕ) → IsCount word 0 → ⊥
no_count_of_zero word is = omega (arith, ints, is.from)

no_count_above_64 : (word : List ℕ) → IsCount word 65 → ⊥
no_count_above_64 word is = omega (arith, ints, is.to)

no_direction_of_two_words : (axis : Axis) → IsAxisText permittivity (codes "5:1") axis → ⊥
no_direction_of_two_words axis is = cc (is.words)

no_grid_of_one_direction : (a : Axes) → IsGridText (codes "5:1:2") a → ⊥
no_grid_of_one_direction a is = cc (is.both)

no_place_twice : HaveDistinctPlaces (pair 0 1 ∷ []) (pair 2 0 ∷ []) → ⊥
unfolding AllDiffer
no_place_twice differ = differ 0 3 0 (omega arith) (omega arith) refl

no_gate_without_output : IsLogic (record wire { outputs = [] }) → ⊥
no_gate_without_output is = omega (arith, is.some_output)

no_gate_of_another_function : IsLogic (record wire { function = of_two false false false true }) → ⊥
no_gate_of_another_function is = omega (arith, is.of_inputs)

-- a single point at the greatest permittivity, or at the greatest screening length, has no far end
module _ (a : Axes) where
  no_far_end_in_eps : a.eps ≡ record { start = pos 1000000; step = pos 1; count = 1 } → HasFarEnds a → ⊥
  no_far_end_in_eps is far = let to = rw is at far.eps.to in omega (arith, ints, to)

  no_far_end_in_lam : a.lam ≡ record { start = pos 10000000; step = pos 1; count = 1 } → HasFarEnds a → ⊥
  no_far_end_in_lam is far = let to = rw is at far.lam.to in omega (arith, ints, to)
