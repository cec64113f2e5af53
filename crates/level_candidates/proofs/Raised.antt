-- the extremes of a potential at the last level, and which sites keep a prefix open there
use Rattle.std.proofs.Common.{◌≡◌, ◌≢◌, ℕ, ◌<◌, ◌≤◌, List, [], length, ℤ, ◌+ℤ◌, ◌-ℤ◌, refl, sym, ap, ◌∙◌, arith, ◌⊎◌, inl, inr, Bool, ◌||◌}
use Rattle.std.specs.Prelude.{int_le}
use Rattle.std.proofs.lemmas.Int.{ints}
use Rattle.std.proofs.lemmas.Bool.{cases_eq, cases_lt, ne_eqb, eq-eqb, lt-ltb, le-ltb}
use Rattle.charge_model.specs.declared.charge.Charge.{Charge}
use Rattle.charge_model.specs.declared.charge.Charge.TheVariants.{Neg, Neutral, Pos}
use Rattle.charge_model.specs.Charges.{charge_at}
use Rattle.charge_model.specs.Problem.{Problem, class_of, near_class_of}
use Rattle.charge_model.specs.Prefixes.{greatest_fixed, greatest_from, least_potential, greatest_potential, may_be_positive}
use Rattle.charge_model.proofs.Sums.{sum_below-same, sum_below-add}
use Rattle.level_range_laws.specs.declared.interval.Interval.{Interval}
use Rattle.level_range_laws.specs.Levels.{at_level, gap_of}
use Rattle.level_range_laws.specs.RangePrefixes.{can_be_in}
use Rattle.level_range_laws.proofs.LevelFacts.{least_at}
use Rattle.level_candidates.specs.Plans.{raise_from, raise_of, allows_in, allows_some_in, keeps_open_in}

fixed_at_level : (p : Problem) (m : ℤ) (k : ℕ) → greatest_fixed (at_level p m) k ≡ greatest_fixed p k
unfolding greatest_fixed near_class_of
fixed_at_level p m k = refl

difference : (x y : ℤ) → x ≡ y +ℤ (x -ℤ y)
difference x y = omega (arith, ints)

raised_term : (p : Problem) (m : ℤ) (q : List Charge) (k j : ℕ) → (j ≡ k) ⊎ (j ≢ k) → (j < length q) ⊎ (length q ≤ j)
    → greatest_from (at_level p m) q k j ≡ greatest_from p q k j +ℤ raise_from p m (length q) k j
unfolding class_of
raised_term p m q k j (inl e) a = rw (eq-eqb j k e) refl
raised_term p m q k j (inr ne) (inl l) = rw (ne_eqb j k ne, lt-ltb j (length q) l) (omega (arith, ints))
raised_term p m q k j (inr ne) (inr g) = rw (ne_eqb j k ne, le-ltb j (length q) g) (difference _ _)

pub greatest_raised : (p : Problem) (m : ℤ) (q : List Charge) (k : ℕ) → greatest_potential (at_level p m) q k ≡ greatest_potential p q k +ℤ raise_of p m (length q) k
unfolding greatest_potential raise_of
greatest_raised p m q k =
    let same = sum_below-same p.sites (greatest_from (at_level p m) q k) (λ j. greatest_from p q k j +ℤ raise_from p m (length q) k j) (λ j l. raised_term p m q k j (cases_eq j k) (cases_lt j (length q))) in
    let both = sum_below-add p.sites (greatest_from p q k) (raise_from p m (length q) k) in
    let fixed = fixed_at_level p m k in
    omega (arith, ints, same, both, fixed)

-- the test of a site that may be positive at a level
pub may_at_level : (p : Problem) (m : ℤ) (q : List Charge) (k : ℕ) (least level : ℤ) (r : Bool) → p.base ≡ 3 → q ≡ [] → least ≡ least_potential p q k → level ≡ m -ℤ gap_of p
    → r ≡ int_le least level → r ≡ may_be_positive (at_level p m) k
unfolding may_be_positive
may_at_level p m q k least level r three none low top is =
    let here : least ≡ least_potential (at_level p m) [] k = low ∙ ap (λ z. least_potential p z k) none ∙ sym (least_at p m [] k) in
    rw (eq-eqb p.base 3 three) (is ∙ ap (λ x. int_le x level) here ∙ ap (int_le (least_potential (at_level p m) [] k)) top)

can_allows : (p : Problem) (levels : Interval) (q : List Charge) (k : ℕ) (a : Charge) → allows_in p levels a (least_potential p q k) (greatest_potential (at_level p levels.last) q k) ≡ can_be_in p levels q k a
unfolding can_be_in
can_allows p levels q k Neg = refl
can_allows p levels q k Neutral = refl
can_allows p levels q k Pos = refl

pub assigned_keeps : (p : Problem) (levels : Interval) (q : List Charge) (k : ℕ) (a : Charge) (lo hi : ℤ) (r : Bool) → k < length q → a ≡ charge_at q k
    → lo ≡ least_potential p q k → hi ≡ greatest_potential (at_level p levels.last) q k → r ≡ allows_in p levels a lo hi → r ≡ keeps_open_in p levels q k
assigned_keeps p levels q k a lo hi r l own low high is =
    rw (lt-ltb k (length q) l) (is ∙ ap (λ x. allows_in p levels a x hi) low ∙ ap (allows_in p levels a (least_potential p q k)) high ∙ can_allows p levels q k a ∙ ap (can_be_in p levels q k) own)

pub unassigned_keeps : (p : Problem) (levels : Interval) (q : List Charge) (k : ℕ) (lo hi : ℤ) (r : Bool) → length q ≤ k
    → lo ≡ least_potential p q k → hi ≡ greatest_potential (at_level p levels.last) q k → r ≡ allows_some_in p levels lo hi → r ≡ keeps_open_in p levels q k
unassigned_keeps p levels q k lo hi r g low high is =
    rw (le-ltb k (length q) g) (is ∙ ap (λ x. allows_some_in p levels x hi) low ∙ ap (allows_some_in p levels (least_potential p q k)) high ∙ some)
  where
    some : allows_some_in p levels (least_potential p q k) (greatest_potential (at_level p levels.last) q k) ≡ (can_be_in p levels q k Neg || can_be_in p levels q k Neutral || can_be_in p levels q k Pos)
    some = rw (can_allows p levels q k Neg, can_allows p levels q k Neutral, can_allows p levels q k Pos) refl
