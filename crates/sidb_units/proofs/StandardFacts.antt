-- texts worked by hand: the numbers and the faults of some, and how some numbers are printed
use Rattle.std.proofs.Common.{◌≡◌, ℕ, zero, suc, ◌<◌, ◌≤◌, pos, List, [], ◌∷◌, slice_index, codes, refl, arith, inl, inr}
use Rattle.std.proofs.lemmas.Int.{ints}
use Rattle.std.specs.Fmt.{digits}
use Rattle.sidb_units.specs.declared.decimal_fault.DecFault.TheVariants.{Empty, BadByte, TooManyPlaces, OutOfRange}
use Rattle.sidb_units.specs.Numeral.{IsDigit, IsNumeral}
use Rattle.sidb_units.specs.Decimal.{IsReadAs, HasDecimalFault, decimal_text, last_digits}
use Rattle.sidb_units.proofs.NumeralLemmas.{can_digits, can_point, no_digits, no_end}

-- `5.6`
abbrev pub five_point_six : List ℕ
five_point_six = 53 ∷ 46 ∷ 54 ∷ []

-- `5.`
abbrev pub five_point : List ℕ
five_point = 53 ∷ 46 ∷ []

-- `5,6`
abbrev pub five_comma_six : List ℕ
five_comma_six = 53 ∷ 44 ∷ 54 ∷ []

-- `07`
abbrev pub seven : List ℕ
seven = 48 ∷ 55 ∷ []

digit : (byte : ℕ) → 48 ≤ byte → byte ≤ 57 → IsDigit byte
digit byte from to = record { from = from; to = to }

-- a first byte that is a `5`
starts : (text : List ℕ) → slice_index text 0 ≡ 53 → (i : ℕ) → i < 1 → IsDigit (slice_index text i)
starts text is zero below = digit (slice_index text 0) (omega arith) (omega arith)
starts text is (suc i) below = absurd (omega arith)

pub five_point_six_numeral : IsNumeral five_point_six 1
five_point_six_numeral = record {
  some = omega arith;
  within = omega arith;
  whole = starts five_point_six refl;
  rest = inr (record { point = refl; some = omega arith; digits = after });
} where
  after : (i : ℕ) → 1 < i → i < 3 → IsDigit (slice_index five_point_six i)
  after zero above below = absurd (omega arith)
  after (suc zero) above below = absurd (omega arith)
  after (suc (suc zero)) above below = digit 54 (omega arith) (omega arith)
  after (suc (suc (suc i))) above below = absurd (omega arith)

pub seven_numeral : IsNumeral seven 2
seven_numeral = record { some = omega arith; within = omega arith; whole = both; rest = inl refl } where
  both : (i : ℕ) → i < 2 → IsDigit (slice_index seven i)
  both zero below = digit 48 (omega arith) (omega arith)
  both (suc zero) below = digit 55 (omega arith) (omega arith)
  both (suc (suc i)) below = absurd (omega arith)

-- a permittivity of 5.6, in 10^-4
pub five_point_six_is : IsReadAs five_point_six 4 (pos 10000) (pos 1000000) (pos 56000)
five_point_six_is = record {
  digits = 1;
  numeral = five_point_six_numeral;
  few = omega arith;
  value = refl;
  from = omega (arith, ints);
  to = omega (arith, ints);
}

-- leading zeros are in the grammar
pub seven_is : IsReadAs seven 0 (pos 0) (pos 9) (pos 7)
seven_is = record {
  digits = 2;
  numeral = seven_numeral;
  few = omega arith;
  value = refl;
  from = omega (arith, ints);
  to = omega (arith, ints);
}

nothing_is_empty : HasDecimalFault [] 4 (pos 0) (pos 9) Empty
nothing_is_empty = refl

pub comma_is_bad : HasDecimalFault five_comma_six 4 (pos 10000) (pos 1000000) (BadByte 1)
comma_is_bad = (
  omega arith,
  record {
    before = can_digits five_comma_six 1 (omega arith) (omega arith) (starts five_comma_six refl);
    here = inl (omega arith, no_digits five_comma_six 1 (starts five_comma_six refl) (λ h. omega (arith, h.from)) (λ e. omega (arith, e)));
  },
)

pub point_ends_too_early : HasDecimalFault five_point 4 (pos 10000) (pos 1000000) (BadByte 2)
point_ends_too_early = (
  omega arith,
  record {
    before = can_point five_point 1 (omega arith) (omega arith) (starts five_point refl) refl;
    here = inr (refl, no_end five_point 1 refl (starts five_point refl) refl);
  },
)

pub too_many : HasDecimalFault five_point_six 0 (pos 0) (pos 9) TooManyPlaces
too_many = record { digits = 1; numeral = five_point_six_numeral; many = omega arith }

pub too_great : HasDecimalFault seven 0 (pos 0) (pos 6) OutOfRange
too_great = record { digits = 2; numeral = seven_numeral; few = omega arith; outside = inr (omega (arith, ints)) }

pub too_small : HasDecimalFault seven 0 (pos 8) (pos 9) OutOfRange
too_small = record { digits = 2; numeral = seven_numeral; few = omega arith; outside = inl (omega (arith, ints)) }

prints_places : decimal_text 4 56000 ≡ codes "5.6000"
unfolding last_digits digits
prints_places = refl

prints_leading_zero : decimal_text 2 5 ≡ codes "0.05"
unfolding last_digits digits
prints_leading_zero = refl

prints_whole : decimal_text 0 56000 ≡ codes "56000"
unfolding digits
prints_whole = refl
