-- three neighbours along a row, worked by hand
use Rattle.std.proofs.Common.{◌≡◌, ◌≢◌, ◌≤ℤ◌, ℕ, zero, suc, ℤ, pos, neg_ℤ, [], ◌∷◌, refl, arith}
use Rattle.std.proofs.lemmas.Int.{ints}
use Rattle.charge_model.specs.declared.charge.Charge.TheVariants.{Neg, Neutral}
use Rattle.charge_model.specs.declared.span.Span.{Span}
use Rattle.charge_model.specs.Problem.{Problem, class_of, near_class_of}
use Rattle.charge_model.specs.Prefixes.{least_fixed, greatest_fixed, least_potential, may_be_positive}
use Rattle.prefix_rows.specs.Tables.{IsPairPart, IsPrefixPart}
use Rattle.prefix_rows.specs.Limits.{IsLimit}
use Rattle.prefix_rows.specs.Rows.{IsSpanOfPair, IsRowWritten, extremes_at}
use Rattle.prefix_extremes.specs.declared.amount.Amount.{Amount}

abbrev span : (lo hi : ℤ) → lo ≤ℤ hi → Span
span lo hi in_order = record { lo = lo; hi = hi; in_order = in_order }

abbrev pub amount : ℕ → Amount
amount n = record { value = pos n }

abbrev zero_amount : Amount
zero_amount = amount 0

abbrev pub neighbours : Problem
neighbours = record {
  sites = 3;
  base = 3;
  mu_minus = neg_ℤ (pos 320000000000);
  mu_plus = neg_ℤ (pos 910000000000);
  fixed_charges = [];
  pair_classes = 0 ∷ 1 ∷ 0 ∷ [];
  near_classes = [];
  spans = span (pos 620124254312) (pos 620124254313) (omega (arith, ints)) ∷ span (pos 287140799939) (pos 287140799940) (omega (arith, ints)) ∷ [];
}

-- the first two sites stand in one pair, and a site in none with itself
span_of_pair : IsSpanOfPair neighbours 0 1 (record { least = amount 620124254312; greatest = amount 620124254313 })
unfolding class_of
span_of_pair = record { lo = refl; hi = refl; order = omega (arith, ints); small = record { least = omega arith; greatest = omega arith } }

span_of_one : IsSpanOfPair neighbours 1 1 (record { least = zero_amount; greatest = zero_amount })
span_of_one = record { lo = refl; hi = refl; order = omega (arith, ints); small = record { least = omega arith; greatest = omega arith } }

-- no site is assigned: the pairs with the site in the middle may be one negative, one positive
pairs_of_none : IsPairPart neighbours 0 (record { value = neg_ℤ (pos 1240248508626) })
unfolding least_potential least_fixed may_be_positive class_of near_class_of
pairs_of_none = record { value = refl; small = omega arith }

-- two negative neighbours: the least number of their pair
pair_of_two : IsPrefixPart neighbours (Neg ∷ Neg ∷ []) 2 (record { value = pos 620124254312 })
unfolding least_fixed greatest_fixed class_of near_class_of
pair_of_two = record { value = refl; small = omega arith }

-- a neutral site's least potential is at most mu_minus, and its greatest at least mu_plus
limit_of_neutral : IsLimit neighbours Neutral (record { least = record { value = neg_ℤ (pos 320000000000) }; greatest = record { value = neg_ℤ (pos 910000000000) } })
limit_of_neutral = record { least = refl; greatest = refl }

-- a row of one site
one_site_written : IsRowWritten (record { least = zero_amount ∷ []; greatest = zero_amount ∷ [] }) 0 (record { least = zero_amount; greatest = amount 5 })
    (record { least = zero_amount ∷ []; greatest = amount 5 ∷ [] })
one_site_written = record { here = refl; others = λ i ne. past i ne }
  where
    past : (i : ℕ) → i ≢ 0 → extremes_at (record { least = zero_amount ∷ []; greatest = amount 5 ∷ [] }) i ≡ extremes_at (record { least = zero_amount ∷ []; greatest = zero_amount ∷ [] }) i
    past zero ne = absurd (ne refl)
    past (suc i) ne = refl
