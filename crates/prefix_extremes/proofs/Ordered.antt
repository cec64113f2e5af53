-- the least of a potential is at most its greatest, and so which unassigned sites are closed
use Rattle.std.proofs.Common.{◌≡◌, ℕ, zero, suc, ◌<◌, ◌≤◌, List, length, map, ℤ, pos, neg_ℤ, ◌≤ℤ◌, ◌*ℤ◌, refl, sym, ◌∙◌, arith, Bool, true, false, cond, ◌⊎◌, inl, inr}
use Rattle.std.specs.Prelude.{int_le}
use Rattle.std.proofs.lemmas.Int.{ints}
use Rattle.std.proofs.lemmas.Bool.{cases_lt}
use Rattle.std.proofs.lemmas.List.{get_or_past, length-map}
use Rattle.charge_model.specs.declared.charge.Charge.{Charge}
use Rattle.charge_model.specs.Charges.{number_at}
use Rattle.charge_model.specs.Problem.{Problem, IsProblem, AreSpans, class_of, near_class_of, fixed_count, fixed_at, lo_in, hi_in}
use Rattle.charge_model.specs.Rules.{sum_below}
use Rattle.charge_model.specs.Prefixes.{lesser, greater, least_product, greatest_product, least_fixed, greatest_fixed, least_from, greatest_from, least_potential, greatest_potential, may_be_positive}
use Rattle.charge_model.specs.Tree.{is_open}
use Rattle.prefix_extremes.specs.Closed.{keeps_open}
use Rattle.prefix_extremes.specs.Parts.{allows_some}
use Rattle.prefix_extremes.proofs.Opening.{OpenBelow, some_allows, open_to_the_end}

lesser_first : (x y : ℤ) → lesser x y ≤ℤ greater x y
lesser_first x y = grind (arith, ints)

sum_ordered : (n : ℕ) (f g : ℕ → ℤ) → ((k : ℕ) → k < n → f k ≤ℤ g k) → sum_below n f ≤ℤ sum_below n g
sum_ordered zero f g each = omega (arith, ints)
sum_ordered (suc n) f g each = omega (arith, ints, sum_ordered n f g (λ k h. each k (omega arith)), each n (omega arith))

-- no potential is negative
hi_positive : (p : Problem) (c : ℕ) → AreSpans p.spans → pos 0 ≤ℤ hi_in p.spans c
hi_positive p c spans = by (cases_lt c (length p.spans))
  where
    by : (c < length p.spans) ⊎ (length p.spans ≤ c) → pos 0 ≤ℤ hi_in p.spans c
    by (inl l) = omega (arith, ints, (spans c l).0, (spans c l).1)
    by (inr g) =
        let past : hi_in p.spans c ≡ pos 0 = get_or_past (map (λ s. s.hi) p.spans) c (pos 0) (omega (arith, g, length-map p.spans (λ s. s.hi))) in
        omega (arith, ints, past)

-- what one site adds
ordered_choice : (same assigned positive : Bool) (x y h : ℤ) → x ≤ℤ y → pos 0 ≤ℤ h
    → cond same (pos 0) (cond assigned x (neg_ℤ h)) ≤ℤ cond same (pos 0) (cond assigned y (cond positive h (pos 0)))
ordered_choice true assigned positive x y h order above = omega (arith, ints)
ordered_choice false true positive x y h order above = order
ordered_choice false false true x y h order above = omega (arith, ints)
ordered_choice false false false x y h order above = omega (arith, ints)

from_ordered : (p : Problem) (q : List Charge) (k j : ℕ) → AreSpans p.spans → least_from p q k j ≤ℤ greatest_from p q k j
from_ordered p q k j spans =
    let c = class_of p k j in
    ordered_choice _ _ (may_be_positive p j) (least_product p c (number_at q j)) (greatest_product p c (number_at q j)) (hi_in p.spans c)
    (lesser_first (number_at q j *ℤ lo_in p.spans c) (number_at q j *ℤ hi_in p.spans c)) (hi_positive p c spans)

pub extremes_ordered : (p : Problem) (q : List Charge) (k : ℕ) → AreSpans p.spans → least_potential p q k ≤ℤ greatest_potential p q k
unfolding least_potential greatest_potential least_fixed greatest_fixed
extremes_ordered p q k spans =
    let near = sum_ordered (fixed_count p) (λ a. least_product p (near_class_of p k a) (fixed_at p a)) (λ a. greatest_product p (near_class_of p k a) (fixed_at p a))
    (λ a l. lesser_first (fixed_at p a *ℤ lo_in p.spans (near_class_of p k a)) (fixed_at p a *ℤ hi_in p.spans (near_class_of p k a))) in
    let sites = sum_ordered p.sites (least_from p q k) (greatest_from p q k) (λ j l. from_ordered p q k j spans) in
    omega (arith, ints, near, sites)

-- between ordered extremes a site can always have some charge in base 3
some_of_three : (p : Problem) (least greatest : ℤ) → p.base ≡ 3 → p.mu_plus ≤ℤ p.mu_minus → least ≤ℤ greatest → allows_some p least greatest ≡ true
some_of_three p least greatest three levels order = grind (arith, ints)

-- and in base 2 where the greatest is not below mu_plus
some_of_two : (p : Problem) (least greatest : ℤ) → p.base ≡ 2 → p.mu_plus ≤ℤ p.mu_minus → least ≤ℤ greatest → allows_some p least greatest ≡ int_le p.mu_plus greatest
some_of_two p least greatest two levels order = grind (arith, ints)

-- an unassigned site keeps a prefix open in base 3
pub three_keep : (p : Problem) (q : List Charge) (k : ℕ) → IsProblem p → p.base ≡ 3 → length q ≤ k → keeps_open p q k ≡ true
three_keep p q k valid three g =
    sym (some_allows p q k g) ∙ some_of_three p (least_potential p q k) (greatest_potential p q k) three valid.levels (extremes_ordered p q k valid.spans)

-- and in base 2 where its greatest potential is not below mu_plus
pub two_keep : (p : Problem) (q : List Charge) (k : ℕ) → IsProblem p → p.base ≡ 2 → length q ≤ k → int_le p.mu_plus (greatest_potential p q k) ≡ keeps_open p q k
two_keep p q k valid two g =
    sym (some_of_two p (least_potential p q k) (greatest_potential p q k) two valid.levels (extremes_ordered p q k valid.spans)) ∙ some_allows p q k g

-- in base 3 a prefix is open where its own sites keep it open
pub open_in_three : (p : Problem) (q : List Charge) (n : ℕ) → IsProblem p → p.base ≡ 3 → n ≡ length q → OpenBelow p q n → true ≡ is_open p q
open_in_three p q n valid three whole before = open_to_the_end p q p.sites refl (λ j l. by j (cases_lt j n))
  where
    by : (j : ℕ) → (j < n) ⊎ (n ≤ j) → keeps_open p q j ≡ true
    by j (inl l) = before j l
    by j (inr g) = three_keep p q j valid three (omega (arith, g, whole))
