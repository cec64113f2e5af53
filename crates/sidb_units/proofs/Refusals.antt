-- each definition refuses a wrong value
use Rattle.std.proofs.Common.{◌≡◌, ℕ, pos, List, [], ◌∷◌, arith, inl, inr}
use Rattle.std.proofs.lemmas.Int.{ints}
use Rattle.sidb_units.specs.declared.decimal_fault.DecFault.TheVariants.{BadByte, TooManyPlaces, OutOfRange}
use Rattle.sidb_units.specs.Numeral.{IsDigit, HasFraction, IsNumeral}
use Rattle.sidb_units.specs.Decimal.{IsReadAs, HasDecimalFault}
use Rattle.sidb_units.proofs.ReadingLemmas.{values, faults, one}
use Rattle.sidb_units.proofs.StandardFacts.{five_point_six, five_point, five_comma_six, seven, five_point_six_is, comma_is_bad, point_ends_too_early, too_many}

no_digit_slash : IsDigit 47 → ⊥
no_digit_slash d = omega (arith, d.from)

no_digit_colon : IsDigit 58 → ⊥
no_digit_colon d = omega (arith, d.to)

no_fraction_without_point : HasFraction seven 0 → ⊥
no_fraction_without_point f = omega (arith, f.point)

no_empty_fraction : HasFraction five_point 1 → ⊥
no_empty_fraction f = omega (arith, f.some)

no_fraction_of_points : HasFraction (46 ∷ 46 ∷ []) 0 → ⊥
no_fraction_of_points f = no_point (f.digits 1 (omega arith) (omega arith)) where
  no_point : IsDigit 46 → ⊥
  no_point d = omega (arith, d.from)

no_numeral_without_whole : (text : List ℕ) → IsNumeral text 0 → ⊥
no_numeral_without_whole text n = omega (arith, n.some)

no_numeral_past_its_end : IsNumeral seven 3 → ⊥
no_numeral_past_its_end n = omega (arith, n.within)

no_numeral_with_a_comma : IsNumeral five_comma_six 3 → ⊥
no_numeral_with_a_comma n = no_comma (n.whole 1 (omega arith)) where
  no_comma : IsDigit 44 → ⊥
  no_comma d = omega (arith, d.from)

no_numeral_that_stops : IsNumeral seven 1 → ⊥
no_numeral_that_stops n = elim n.rest [ inl e ↦ omega (arith, e) | inr f ↦ omega (arith, f.point) ]

-- another number than the one that the text is
no_other_value : IsReadAs five_point_six 4 (pos 10000) (pos 1000000) (pos 5600) → ⊥
no_other_value r = omega (arith, ints, values five_point_six 4 (pos 10000) (pos 1000000) (pos 5600) (pos 56000) r five_point_six_is)

no_number_below : IsReadAs seven 0 (pos 8) (pos 9) (pos 7) → ⊥
no_number_below r = omega (arith, ints, r.from)

no_number_above : IsReadAs seven 0 (pos 0) (pos 6) (pos 7) → ⊥
no_number_above r = omega (arith, ints, r.to)

no_number_with_many_places : IsReadAs five_point_six 0 (pos 0) (pos 9) (pos 5) → ⊥
no_number_with_many_places r = faults five_point_six 0 (pos 0) (pos 9) (pos 5) TooManyPlaces r too_many

no_number_with_a_comma : IsReadAs five_comma_six 4 (pos 10000) (pos 1000000) (pos 50000) → ⊥
no_number_with_a_comma r = faults five_comma_six 4 (pos 10000) (pos 1000000) (pos 50000) (BadByte 1) r comma_is_bad

no_fault_of_a_number : HasDecimalFault five_point_six 4 (pos 10000) (pos 1000000) OutOfRange → ⊥
no_fault_of_a_number f = faults five_point_six 4 (pos 10000) (pos 1000000) (pos 56000) OutOfRange five_point_six_is f

no_earlier_byte : HasDecimalFault five_point 4 (pos 10000) (pos 1000000) (BadByte 1) → ⊥
no_earlier_byte f =
    let same : BadByte 1 ≡ BadByte 2 = one five_point 4 (pos 10000) (pos 1000000) (BadByte 1) (BadByte 2) f point_ends_too_early in
    cc

no_range_before_places : HasDecimalFault five_point_six 0 (pos 6) (pos 9) OutOfRange → ⊥
no_range_before_places f =
    let same : OutOfRange ≡ TooManyPlaces = one five_point_six 0 (pos 6) (pos 9) OutOfRange TooManyPlaces f too_many in
    cc
