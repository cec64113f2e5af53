-- the sums of the ends of the intervals of all entries of a list
use Rattle.std.specs.Prelude.{ℕ, ◌≤◌, List, [], ◌∷◌, map}
use Rattle.root_exp.specs.Series.{Fraction}
use Rattle.charge_model.specs.declared.charge.Charge.{Charge}
use Rattle.charge_model.specs.Problem.{Problem, Table}
use Rattle.occupation.specs.Fractions.{nothing, plus}
use Rattle.occupation.specs.Intervals.{share_at_order}

-- the sum of fractions
unfoldable pub sum_of : List Fraction → Fraction
sum_of [] = nothing
sum_of (f ∷ fs) = plus f (sum_of fs)

-- the lower ends of the intervals of order k of these entries, among all entries l
abbrev pub lows_at : Problem → ℕ → List (List Charge) → Table → ℕ → List (List Charge) → List Fraction
lows_at p kt l t k es = map (λ c. (share_at_order p kt l c t k).low) es

-- their upper ends
abbrev pub highs_at : Problem → ℕ → List (List Charge) → Table → ℕ → List (List Charge) → List Fraction
highs_at p kt l t k es = map (λ c. (share_at_order p kt l c t k).high) es

-- a fraction, nothing divided by 0, that is at most 1
pub record IsAtMostOne (f : Fraction) : Type 0 where
  pub is_fraction : 1 ≤ f.bottom
  pub at_most : f.top ≤ f.bottom

-- a fraction that is at least 1
pub record IsAtLeastOne (f : Fraction) : Type 0 where
  pub is_fraction : 1 ≤ f.bottom
  pub at_least : f.bottom ≤ f.top
