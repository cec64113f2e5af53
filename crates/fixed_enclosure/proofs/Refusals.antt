-- what is no number of a span, no sum and no least span
use Rattle.std.proofs.Common.{pos, negsuc, refl, arith}
use Rattle.std.proofs.lemmas.Int.{ints}
use Rattle.fixed_enclosure.specs.Hull.{IsHull, IsProduct, IsSum, IsInSpan}
use Rattle.fixed_enclosure.proofs.StandardFacts.{small, span, wide}

below_lo : IsInSpan small (pos 0) → ⊥
below_lo is = omega (arith, ints, is.from_lo)

above_hi : IsInSpan small (pos 4) → ⊥
above_hi is = omega (arith, ints, is.to_hi)

no_sum : IsSum small wide (pos 9) → ⊥
no_sum is = omega (arith, ints, is.of_a.to_hi, is.of_b.to_hi, is.sum)

no_product : IsProduct small (pos 2) (pos 3) → ⊥
no_product is = omega (arith, ints, is.product)

least_missed : IsHull (IsSum small wide) (span (negsuc 1) (pos 8) (omega (arith, ints))) → ⊥
least_missed is = omega (arith, ints, is.least.sum, is.least.of_a.from_lo, is.least.of_b.from_lo)

greatest_missed : IsHull (IsSum small wide) (span (negsuc 0) (pos 9) (omega (arith, ints))) → ⊥
greatest_missed is = no_sum is.greatest

-- 8 is a sum of 3 and 5
too_narrow : IsHull (IsSum small wide) (span (negsuc 0) (pos 7) (omega (arith, ints))) → ⊥
too_narrow is =
    let eight : IsSum small wide (pos 8) = record {
      left = pos 3;
      right = pos 5;
      of_a = record { from_lo = omega (arith, ints); to_hi = omega (arith, ints) };
      of_b = record { from_lo = omega (arith, ints); to_hi = omega (arith, ints) };
      sum = refl;
    } in
    omega (arith, ints, (is.bounds (pos 8) eight).to_hi)
