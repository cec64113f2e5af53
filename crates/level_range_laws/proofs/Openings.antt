-- each prefix of a candidate of an interval is a range prefix
use Rattle.std.proofs.Common.{◌≡◌, ◌≢◌, ℕ, zero, suc, ◌<◌, ◌≤◌, List, [], ◌∷◌, length, take, ℤ, pos, ◌-ℤ◌, ◌*ℤ◌, ◌≤ℤ◌, refl, sym, subst, ap, ◌∙◌, arith, ◌⊎◌, inl, inr, Bool, true, false, cond, eqb, ltb, ◌||◌}
use Rattle.std.specs.Prelude.{int_le}
use Rattle.std.proofs.lemmas.Int.{ints}
use Rattle.std.proofs.lemmas.Bool.{cases_eq, cases_lt, ne_eqb, eq-eqb, lt-ltb, le-ltb}
use Rattle.std.proofs.lemmas.List.{get_or-take, length-take, take-take}
use Rattle.charge_model.specs.declared.charge.Charge.{Charge}
use Rattle.charge_model.specs.declared.charge.Charge.TheVariants.{Neg, Neutral, Pos}
use Rattle.charge_model.specs.declared.charge.Test.TheVariants.{AboveMinus, AbovePlus, BelowMinus, BelowPlus}
use Rattle.charge_model.specs.Charges.{charge_at, number_at, number_of, IsOfBase}
use Rattle.charge_model.specs.Problem.{Problem, Table, IsTable, IsProblem, class_of, near_class_of, hi_in}
use Rattle.charge_model.specs.Rules.{sum_below, potential_at, potential_from, fixed_potential, slack, IsChargeList, at_site}
use Rattle.charge_model.specs.Prefixes.{greatest_fixed, greatest_from, least_potential, greatest_potential, may_be_positive}
use Rattle.charge_model.proofs.Pairs.{class_below}
use Rattle.charge_model.proofs.Products.{not_negative, le-greatest_product, le-scaled_sum, unscaled}
use Rattle.charge_model.proofs.Sums.{mul-add}
use Rattle.prefix_laws.proofs.Extremes.{IsFront, of_base-at, least_of_front, le-greatest_fixed}
use Rattle.level_range_laws.specs.declared.interval.Interval.{Interval}
use Rattle.level_range_laws.specs.Levels.{at_level, gap_of, IsCandidateIn}
use Rattle.level_range_laws.specs.RangePrefixes.{can_be_in, is_open_in, IsRangePrefix}
use Rattle.level_range_laws.proofs.LevelFacts.{table_of, slack_above_minus, slack_above_plus, slack_below_minus, slack_below_plus, least_at}
use Rattle.prefix_laws.proofs.NodeLemmas.{some_charge, all_below-of}

-- a candidate, and a prefix of it
pub record IsBegun (p : Problem) (levels : Interval) (c q : List Charge) : Type 0 where
  pub is_problem : IsProblem p
  pub candidate : IsCandidateIn p levels c
  pub short : length q ≤ p.sites
  pub same : (j : ℕ) → j < length q → charge_at q j ≡ charge_at c j

front_of : (p : Problem) (levels : Interval) (c q : List Charge) → IsBegun p levels c q → IsFront p c q
front_of p levels c q h = record { is_problem = h.is_problem; short = h.short; same = h.same }

empty_front : (p : Problem) (c : List Charge) → IsProblem p → IsFront p c []
empty_front p c is = record { is_problem = is; short = omega arith; same = λ j l. absurd (omega (arith, l)) }

from : (x y : ℤ) → x ≡ y → pos 0 ≤ℤ x → pos 0 ≤ℤ y
from x y e h = subst (λ z. pos 0 ≤ℤ z) e h

three_of : (p : Problem) (c : List Charge) (k : ℕ) → IsProblem p → IsChargeList p c → charge_at c k ≡ Pos → p.base ≡ 3
three_of p c k is list e = by is.base_2_or_3
  where
    by : (p.base ≡ 2) ⊎ (p.base ≡ 3) → p.base ≡ 3
    by (inl two) = absurd (of_base-at p.base c k list.of_base e two)
    by (inr three) = three

-- a potential that some table puts at most at a level
below_some : (p : Problem) (c q : List Charge) (k : ℕ) (level : ℤ) (t : Table) → IsFront p c q → k < p.sites → IsTable p t
    → pos 0 ≤ℤ (pos t.scale *ℤ level -ℤ potential_at p t c k) → least_potential p q k ≤ℤ level
below_some p c q k level t front l is slack =
    let bound = least_of_front p c q t k front is l in
    unscaled t.scale (least_potential p q k) level is.positive (omega (arith, ints, slack, bound))

le-test : (x y : ℤ) → x ≤ℤ y → int_le x y ≡ true
le-test x y h = grind (arith, ints)

-- a site that is positive in a candidate may be positive at the last level
positive_may : (p : Problem) (levels : Interval) (c : List Charge) (k : ℕ) → IsProblem p → IsCandidateIn p levels c → k < p.sites → charge_at c k ≡ Pos
    → may_be_positive (at_level p levels.last) k ≡ true
unfolding may_be_positive
positive_may p levels c k is h l e =
    let test = h.possible (at_site k BelowPlus) (l, rw e refl) in
    let t = test.0 in
    let table = table_of p h.level t test.1 in
    let level = below_some p c [] k (h.level -ℤ gap_of p) t (empty_front p c is) l table (from _ _ (slack_below_plus p h.level c k t) test.2) in
    let top : least_potential p [] k ≤ℤ (levels.last -ℤ gap_of p) = omega (arith, ints, level, h.inside.to) in
    let first : eqb p.base 3 ≡ true = eq-eqb p.base 3 (three_of p c k is h.is_list e) in
    let second : int_le (least_potential (at_level p levels.last) [] k) (levels.last -ℤ gap_of p) ≡ true =
    ap (λ x. int_le x (levels.last -ℤ gap_of p)) (least_at p levels.last [] k) ∙ le-test _ _ top in
    rw (first, second) refl

-- an unassigned site adds at most hi where it may be positive, and else nothing
greatest_open : (s : ℕ) (u y : ℤ) (a : Charge) (may : Bool) → pos 0 ≤ℤ u → u ≤ℤ (pos s *ℤ y) → (a ≡ Pos → may ≡ true) → (u *ℤ number_of a) ≤ℤ (pos s *ℤ cond may y (pos 0))
greatest_open s u y Neg true low high positive = omega (arith, ints, low, high)
greatest_open s u y Neg false low high positive = omega (arith, ints, low, high)
greatest_open s u y Neutral true low high positive = omega (arith, ints, low, high)
greatest_open s u y Neutral false low high positive = omega (arith, ints, low, high)
greatest_open s u y Pos true low high positive = omega (arith, ints, low, high)
greatest_open s u y Pos false low high positive = let wrong = positive refl in absurd (cc)

greatest_step : (p : Problem) (levels : Interval) (c q : List Charge) (t : Table) (k j : ℕ) → IsBegun p levels c q → IsTable p t → k < p.sites → j < p.sites
    → (j ≡ k) ⊎ (j ≢ k) → (j < length q) ⊎ (length q ≤ j)
    → cond (eqb j k) (pos 0) (potential_from p t c k j) ≤ℤ (pos t.scale *ℤ greatest_from (at_level p levels.last) q k j)
unfolding class_of
greatest_step p levels c q t k j h is a b (inl e) assigned = rw (eq-eqb j k e) (omega (arith, ints))
greatest_step p levels c q t k j h is a b (inr ne) (inl l) =
    let below = class_below p k j h.is_problem (λ e. ne (sym e)) a b in
    rw (ne_eqb j k ne, lt-ltb j (length q) l, h.same j l) (le-greatest_product p t (class_of p k j) (number_at c j) is below)
greatest_step p levels c q t k j h is a b (inr ne) (inr g) =
    let below = class_below p k j h.is_problem (λ e. ne (sym e)) a b in
    rw (ne_eqb j k ne, le-ltb j (length q) g)
    (greatest_open t.scale (t.potential (class_of p k j)) (hi_in p.spans (class_of p k j)) (charge_at c j) (may_be_positive (at_level p levels.last) j) (not_negative p t (class_of p k j) h.is_problem is below) (is.below (class_of p k j) below)
    (λ e. positive_may p levels c j h.is_problem h.candidate b e))

fixed_at_level : (p : Problem) (m : ℤ) (k : ℕ) → greatest_fixed (at_level p m) k ≡ greatest_fixed p k
unfolding greatest_fixed near_class_of
fixed_at_level p m k = refl

greatest_of_candidate : (p : Problem) (levels : Interval) (c q : List Charge) (t : Table) (k : ℕ) → IsBegun p levels c q → IsTable p t → k < p.sites
    → potential_at p t c k ≤ℤ (pos t.scale *ℤ greatest_potential (at_level p levels.last) q k)
unfolding greatest_potential potential_at
greatest_of_candidate p levels c q t k h is l =
    let bound = le-greatest_fixed p t k h.is_problem is l in
    let fixed = subst (λ x. fixed_potential p t k ≤ℤ (pos t.scale *ℤ x)) (sym (fixed_at_level p levels.last k)) bound in
    let sites = le-scaled_sum p.sites t.scale (greatest_from (at_level p levels.last) q k) (λ j. cond (eqb j k) (pos 0) (potential_from p t c k j))
    (λ j m. greatest_step p levels c q t k j h is l m (cases_eq j k) (cases_lt j (length q))) in
    let spread = mul-add (pos t.scale) (greatest_fixed (at_level p levels.last) k) (sum_below p.sites (greatest_from (at_level p levels.last) q k)) in
    omega (arith, ints, fixed, sites, spread)

-- a potential that some table puts at least at a level
above_some : (p : Problem) (levels : Interval) (c q : List Charge) (k : ℕ) (level : ℤ) (t : Table) → IsBegun p levels c q → k < p.sites → IsTable p t
    → pos 0 ≤ℤ (potential_at p t c k -ℤ pos t.scale *ℤ level) → level ≤ℤ greatest_potential (at_level p levels.last) q k
above_some p levels c q k level t h l is slack =
    let bound = greatest_of_candidate p levels c q t k h is l in
    unscaled t.scale level (greatest_potential (at_level p levels.last) q k) is.positive (omega (arith, ints, slack, bound))

-- each site can have its charge
own_charge : (p : Problem) (levels : Interval) (c q : List Charge) (k : ℕ) (a : Charge) → IsBegun p levels c q → k < p.sites → charge_at c k ≡ a → can_be_in p levels q k a ≡ true
unfolding can_be_in
own_charge p levels c q k Neg h l e =
    let m = h.candidate.level in
    let above = h.candidate.possible (at_site k AboveMinus) (l, rw e refl) in
    let level = above_some p levels c q k m above.0 h l (table_of p m above.0 above.1) (from _ _ (slack_above_minus p m c k above.0) above.2) in
    le-test levels.first (greatest_potential (at_level p levels.last) q k) (omega (arith, ints, level, h.candidate.inside.from))
own_charge p levels c q k Neutral h l e =
    let m = h.candidate.level in
    let above = h.candidate.possible (at_site k AbovePlus) (l, rw e (inl refl)) in
    let below = h.candidate.possible (at_site k BelowMinus) (l, rw e (inr refl)) in
    let high = above_some p levels c q k (m -ℤ gap_of p) above.0 h l (table_of p m above.0 above.1) (from _ _ (slack_above_plus p m c k above.0) above.2) in
    let low = below_some p c q k m below.0 (front_of p levels c q h) l (table_of p m below.0 below.1) (from _ _ (slack_below_minus p m c k below.0) below.2) in
    let first = le-test (levels.first -ℤ gap_of p) (greatest_potential (at_level p levels.last) q k) (omega (arith, ints, high, h.candidate.inside.from)) in
    let second = le-test (least_potential p q k) levels.last (omega (arith, ints, low, h.candidate.inside.to)) in
    rw (first, second) refl
own_charge p levels c q k Pos h l e =
    let m = h.candidate.level in
    let below = h.candidate.possible (at_site k BelowPlus) (l, rw e refl) in
    let low = below_some p c q k (m -ℤ gap_of p) below.0 (front_of p levels c q h) l (table_of p m below.0 below.1) (from _ _ (slack_below_plus p m c k below.0) below.2) in
    let first : eqb p.base 3 ≡ true = eq-eqb p.base 3 (three_of p c k h.is_problem h.candidate.is_list e) in
    let second = le-test (least_potential p q k) (levels.last -ℤ gap_of p) (omega (arith, ints, low, h.candidate.inside.to)) in
    rw (first, second) refl

open_of : (p : Problem) (levels : Interval) (c q : List Charge) → IsBegun p levels c q → is_open_in p levels q ≡ true
unfolding is_open_in
open_of p levels c q h = all_below-of p.sites _ (λ k l. by k l (cases_lt k (length q)))
  where
    by : (k : ℕ) → k < p.sites → (k < length q) ⊎ (length q ≤ k)
        → cond (ltb k (length q)) (can_be_in p levels q k (charge_at q k)) (can_be_in p levels q k Neg || can_be_in p levels q k Neutral || can_be_in p levels q k Pos) ≡ true
    by k l (inl less) = rw (lt-ltb k (length q) less) (own_charge p levels c q k (charge_at q k) h l (sym (h.same k less)))
    by k l (inr all) = rw (le-ltb k (length q) all) (some_charge (can_be_in p levels q k) (charge_at c k) _ _ _ refl refl refl (own_charge p levels c q k (charge_at c k) h l refl))

begun_by : (p : Problem) (levels : Interval) (c : List Charge) (m : ℕ) → IsProblem p → IsCandidateIn p levels c → IsBegun p levels c (take m c)
begun_by p levels c m is h = record {
  is_problem = is;
  candidate = h;
  short = omega (arith, length-take m c, h.is_list.whole);
  same = λ j l. get_or-take m c j Neutral (omega (arith, length-take m c, l));
}

of_base-take : (b m : ℕ) (c : List Charge) → IsOfBase b c → IsOfBase b (take m c)
of_base-take b zero c of = tt
of_base-take b (suc m) [] of = tt
of_base-take b (suc m) (x ∷ xs) of = (of.0, of_base-take b m xs of.1)

pub prefix_in_range : (p : Problem) (levels : Interval) (c : List Charge) (m : ℕ) → IsProblem p → IsCandidateIn p levels c → IsRangePrefix p levels (take m c)
prefix_in_range p levels c m is h = record {
  short = omega (arith, length-take m c, h.is_list.whole);
  of_base = of_base-take p.base m c h.is_list.of_base;
  open_each = λ k l.
      let shorter : take k (take m c) ≡ take k c = take-take k m c (omega (arith, length-take m c, l)) in
      ap (is_open_in p levels) shorter ∙ open_of p levels c (take k c) (begun_by p levels c k is h);
}
