-- texts of pairs, names of functions and texts of grids, worked by hand
use Rattle.std.proofs.Common.{refl, ℕ, zero, suc, ◌<◌, ◌≤◌, pos, [], ◌∷◌, Bool, true, false, codes, slice_index, inl, arith}
use Rattle.std.proofs.lemmas.Int.{ints}
use Rattle.sidb_units.specs.Numeral.{IsDigit, IsNumeral}
use Rattle.model_params.specs.Quantities.{permittivity, screening_length}
use Rattle.gate_model.specs.declared.function.Function.{Function}
use Rattle.gate_model.specs.declared.grid.Axis.{Axis}
use Rattle.gate_model.specs.declared.pairs.PairOf.{PairOf}
use Rattle.gate_model.specs.Functions.{IsFunctionNamed}
use Rattle.gate_model.specs.Grids.{Axes, HasFarEnds, HasPointsIn}
use Rattle.gate_model.specs.GridTexts.{IsAxisText, IsGridText}
use Rattle.gate_model.specs.Logic.{AllDiffer, HaveDistinctPlaces, IsLogic, Logic, logic_of}
use Rattle.gate_model.specs.Pairs.{ArePairs, IsPair, IsPlace}

-- a text of one digit
pub one_digit : (d : ℕ) → 48 ≤ d → d ≤ 57 → IsNumeral (d ∷ []) 1
one_digit d from to = record { some = omega arith; within = omega arith; whole = only; rest = inl refl } where
  only : (i : ℕ) → i < 1 → IsDigit (slice_index (d ∷ []) i)
  only zero below = record { from = from; to = to }
  only (suc i) below = absurd (omega arith)

-- the places 0 to 3
pub zero_is : IsPlace (codes "0") 0
zero_is = record { digits = 1; numeral = one_digit 48 (omega arith) (omega arith); few = omega arith; value = refl; from = omega (arith, ints); to = omega (arith, ints) }

pub one_is : IsPlace (codes "1") 1
one_is = record { digits = 1; numeral = one_digit 49 (omega arith) (omega arith); few = omega arith; value = refl; from = omega (arith, ints); to = omega (arith, ints) }

pub two_is : IsPlace (codes "2") 2
two_is = record { digits = 1; numeral = one_digit 50 (omega arith) (omega arith); few = omega arith; value = refl; from = omega (arith, ints); to = omega (arith, ints) }

pub three_is : IsPlace (codes "3") 3
three_is = record { digits = 1; numeral = one_digit 51 (omega arith) (omega arith); few = omega arith; value = refl; from = omega (arith, ints); to = omega (arith, ints) }

-- a pair of places
abbrev pub pair : ℕ → ℕ → PairOf
pair a b = record { a = a; b = b }

-- `0:3` and `2:1`
pub zero_three : IsPair (codes "0:3") (pair 0 3)
zero_three = record { a_word = codes "0"; b_word = codes "3"; words = refl; a = zero_is; b = three_is }

pub two_one : IsPair (codes "2:1") (pair 2 1)
two_one = record { a_word = codes "2"; b_word = codes "1"; words = refl; a = two_is; b = one_is }

-- a list of one pair, and one of two
pub one_pair : ArePairs 2 (codes "0:3") (pair 0 3 ∷ [])
one_pair = record { each = (zero_three, tt); few = omega arith }

pub other_pair : ArePairs 4 (codes "2:1") (pair 2 1 ∷ [])
other_pair = record { each = (two_one, tt); few = omega arith }

pub two_pairs : ArePairs 2 (codes "0:3,2:1") (pair 0 3 ∷ pair 2 1 ∷ [])
two_pairs = record { each = (zero_three, (two_one, tt)); few = omega arith }

-- a function of one bit, and one of two
abbrev pub of_one : Bool → Bool → Function
of_one a b = record { inputs = 1; table = a ∷ b ∷ false ∷ false ∷ [] }

abbrev pub of_two : Bool → Bool → Bool → Bool → Function
of_two a b c d = record { inputs = 2; table = a ∷ b ∷ c ∷ d ∷ [] }

-- each name with its values for the patterns, which are numbers whose greater bit is the first input
pub record Named : Type 0 where
  pub zero_1 : IsFunctionNamed (codes "zero") 1 (of_one false false)
  pub buf : IsFunctionNamed (codes "buf") 1 (of_one false true)
  pub not_1 : IsFunctionNamed (codes "not") 1 (of_one true false)
  pub one_1 : IsFunctionNamed (codes "one") 1 (of_one true true)
  pub zero_2 : IsFunctionNamed (codes "zero") 2 (of_two false false false false)
  pub and_2 : IsFunctionNamed (codes "and") 2 (of_two false false false true)
  pub gt : IsFunctionNamed (codes "gt") 2 (of_two false false true false)
  pub a_2 : IsFunctionNamed (codes "a") 2 (of_two false false true true)
  pub lt : IsFunctionNamed (codes "lt") 2 (of_two false true false false)
  pub b_2 : IsFunctionNamed (codes "b") 2 (of_two false true false true)
  pub xor : IsFunctionNamed (codes "xor") 2 (of_two false true true false)
  pub or_2 : IsFunctionNamed (codes "or") 2 (of_two false true true true)
  pub nor : IsFunctionNamed (codes "nor") 2 (of_two true false false false)
  pub xnor : IsFunctionNamed (codes "xnor") 2 (of_two true false false true)
  pub notb : IsFunctionNamed (codes "notb") 2 (of_two true false true false)
  pub ge : IsFunctionNamed (codes "ge") 2 (of_two true false true true)
  pub nota : IsFunctionNamed (codes "nota") 2 (of_two true true false false)
  pub le : IsFunctionNamed (codes "le") 2 (of_two true true false true)
  pub nand : IsFunctionNamed (codes "nand") 2 (of_two true true true false)
  pub one_2 : IsFunctionNamed (codes "one") 2 (of_two true true true true)

pub named : Named
named = record {
  zero_1 = record { number = 0; named = refl; of_inputs = refl; values = refl };
  buf = record { number = 1; named = refl; of_inputs = refl; values = refl };
  not_1 = record { number = 2; named = refl; of_inputs = refl; values = refl };
  one_1 = record { number = 3; named = refl; of_inputs = refl; values = refl };
  zero_2 = record { number = 0; named = refl; of_inputs = refl; values = refl };
  and_2 = record { number = 1; named = refl; of_inputs = refl; values = refl };
  gt = record { number = 2; named = refl; of_inputs = refl; values = refl };
  a_2 = record { number = 3; named = refl; of_inputs = refl; values = refl };
  lt = record { number = 4; named = refl; of_inputs = refl; values = refl };
  b_2 = record { number = 5; named = refl; of_inputs = refl; values = refl };
  xor = record { number = 6; named = refl; of_inputs = refl; values = refl };
  or_2 = record { number = 7; named = refl; of_inputs = refl; values = refl };
  nor = record { number = 8; named = refl; of_inputs = refl; values = refl };
  xnor = record { number = 9; named = refl; of_inputs = refl; values = refl };
  notb = record { number = 10; named = refl; of_inputs = refl; values = refl };
  ge = record { number = 11; named = refl; of_inputs = refl; values = refl };
  nota = record { number = 12; named = refl; of_inputs = refl; values = refl };
  le = record { number = 13; named = refl; of_inputs = refl; values = refl };
  nand = record { number = 14; named = refl; of_inputs = refl; values = refl };
  one_2 = record { number = 15; named = refl; of_inputs = refl; values = refl };
}

-- 5 and 6, in 10^-4
abbrev pub five_six : Axis
five_six = record { start = pos 50000; step = pos 10000; count = 2 }

pub five_six_inside : HasPointsIn permittivity five_six
five_six_inside zero lt = record { from = omega (arith, ints); to = omega (arith, ints) }
five_six_inside (suc zero) lt = record { from = omega (arith, ints); to = omega (arith, ints) }
five_six_inside (suc (suc k)) lt = absurd (omega (arith, lt))

pub lengths_inside : HasPointsIn screening_length five_six
lengths_inside zero lt = record { from = omega (arith, ints); to = omega (arith, ints) }
lengths_inside (suc zero) lt = record { from = omega (arith, ints); to = omega (arith, ints) }
lengths_inside (suc (suc k)) lt = absurd (omega (arith, lt))

-- `5:1:2` of either quantity
pub permittivities : IsAxisText permittivity (codes "5:1:2") five_six
permittivities = record {
  start = codes "5";
  step = codes "1";
  count = codes "2";
  words = refl;
  numbers = record {
    start_number = record { digits = 1; numeral = one_digit 53 (omega arith) (omega arith); few = omega arith; value = refl; from = omega (arith, ints); to = omega (arith, ints) };
    step_number = record { digits = 1; numeral = one_digit 49 (omega arith) (omega arith); few = omega arith; value = refl; from = omega (arith, ints); to = omega (arith, ints) };
    count_number = record { digits = 1; numeral = one_digit 50 (omega arith) (omega arith); few = omega arith; value = refl; from = omega (arith, ints); to = omega (arith, ints) };
  };
  inside = five_six_inside;
}

pub lengths : IsAxisText screening_length (codes "5:1:2") five_six
lengths = record {
  start = codes "5";
  step = codes "1";
  count = codes "2";
  words = refl;
  numbers = record {
    start_number = record { digits = 1; numeral = one_digit 53 (omega arith) (omega arith); few = omega arith; value = refl; from = omega (arith, ints); to = omega (arith, ints) };
    step_number = record { digits = 1; numeral = one_digit 49 (omega arith) (omega arith); few = omega arith; value = refl; from = omega (arith, ints); to = omega (arith, ints) };
    count_number = record { digits = 1; numeral = one_digit 50 (omega arith) (omega arith); few = omega arith; value = refl; from = omega (arith, ints); to = omega (arith, ints) };
  };
  inside = lengths_inside;
}

-- a grid of two by two points
abbrev pub two_by_two : Axes
two_by_two = record { eps = five_six; lam = five_six }

pub grid_text : IsGridText (codes "5:1:2,5:1:2") two_by_two
grid_text = record { eps_part = codes "5:1:2"; lam_part = codes "5:1:2"; both = refl; eps = permittivities; lam = lengths }

-- a gate of one input and one output, which hands its input on
abbrev pub wire : Logic
wire = logic_of (pair 0 3 ∷ []) (pair 2 1 ∷ []) (of_one false true)

pub wire_differs : HaveDistinctPlaces (pair 0 3 ∷ []) (pair 2 1 ∷ [])
unfolding AllDiffer
wire_differs zero zero d before within same = omega (arith, before)
wire_differs zero (suc zero) d before within same = omega (arith, same)
wire_differs zero (suc (suc zero)) d before within same = omega (arith, same)
wire_differs zero (suc (suc (suc zero))) d before within same = omega (arith, same)
wire_differs (suc zero) zero d before within same = omega (arith, before)
wire_differs (suc zero) (suc zero) d before within same = omega (arith, before)
wire_differs (suc zero) (suc (suc zero)) d before within same = omega (arith, same)
wire_differs (suc zero) (suc (suc (suc zero))) d before within same = omega (arith, same)
wire_differs (suc (suc zero)) zero d before within same = omega (arith, before)
wire_differs (suc (suc zero)) (suc zero) d before within same = omega (arith, before)
wire_differs (suc (suc zero)) (suc (suc zero)) d before within same = omega (arith, before)
wire_differs (suc (suc zero)) (suc (suc (suc zero))) d before within same = omega (arith, same)
wire_differs i (suc (suc (suc (suc j)))) d before within same = omega (arith, within)
wire_differs (suc (suc (suc i))) j d before within same = omega (arith, before, within)

pub wire_is_gate : IsLogic wire
wire_is_gate = record {
  some_input = omega arith;
  few_inputs = omega arith;
  some_output = omega arith;
  few_outputs = omega arith;
  of_inputs = refl;
  distinct = wire_differs;
}

-- its far ends are 7 and 7 nm
pub far_ends : HasFarEnds two_by_two
far_ends = record {
  eps = record { from = omega (arith, ints); to = omega (arith, ints) };
  lam = record { from = omega (arith, ints); to = omega (arith, ints) };
}
