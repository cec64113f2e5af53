-- one site alone at the levels -2 to 0, worked by hand (docs/MODEL.md, "Levels")
use Rattle.std.proofs.Common.{◌≡◌, ℕ, zero, suc, ◌<◌, ◌≤◌, ℤ, pos, neg_ℤ, ◌-ℤ◌, ◌*ℤ◌, ◌≤ℤ◌, List, [], ◌∷◌, refl, sym, subst, arith, inl, inr, true}
use Rattle.std.specs.Prelude.{◌<ℤ◌, ◌↔◌, All, Contains, IsTrue, IsSome, slice_index_or}
use Rattle.std.proofs.lemmas.Int.{ints}
use Rattle.std.proofs.lemmas.List.Elements.{All-nil, All-cons}
use Rattle.charge_model.specs.declared.charge.Charge.{Charge}
use Rattle.charge_model.specs.declared.charge.Charge.TheVariants.{Neg, Neutral, Pos}
use Rattle.charge_model.specs.declared.charge.Test.TheVariants.{AboveMinus, AbovePlus, BelowMinus, BelowPlus}
use Rattle.charge_model.specs.Charges.{IsBefore}
use Rattle.charge_model.specs.Problem.{Table, IsTable, UnderEveryTable, UnderSomeTable, class_of, near_class_of}
use Rattle.charge_model.specs.Prefixes.{least_fixed, least_potential, greatest_fixed, greatest_potential, may_be_positive}
use Rattle.charge_model.specs.Rules.{energy, potential_at, test_slack, at_site, by_hop, IsChargeList, IsPossiblyValid, IsCertainlyValid, Beats}
use Rattle.charge_model.specs.GroundList.{IsListed, IsCertain}
use Rattle.charge_model.proofs.OneSite.{one_site}
use Rattle.charge_model.proofs.Sums.{mul-le}
use Rattle.level_range_laws.specs.declared.interval.Interval.{Interval}
use Rattle.level_range_laws.specs.Levels.{at_level}
use Rattle.level_range_laws.specs.RangePrefixes.{can_be_in, is_open_in, range_prefix_count}
use Rattle.level_range_laws.specs.Answers.{Outcome, IsAnswerAt}
use Rattle.level_range_laws.specs.Parts.{Printed, IsPrintedPart, ArePrinted, printed_whole}
use Rattle.level_range_laws.proofs.OneAnswer.{one_answer}

-- three levels
abbrev pub three_levels : Interval
three_levels = record { first = neg_ℤ (pos 2); last = pos 0 }

-- the gap of 0.59 V stays
moved_levels : at_level one_site (neg_ℤ (pos 2)) ≡ record one_site { mu_minus = neg_ℤ (pos 2); mu_plus = neg_ℤ (pos 590000000002) }
moved_levels = refl

-- the empty prefix, and that the site is negative, or neutral
pub three_prefixes : range_prefix_count one_site three_levels ≡ 3
unfolding range_prefix_count is_open_in can_be_in greatest_potential greatest_fixed may_be_positive least_potential least_fixed class_of near_class_of
three_prefixes = refl

no_potential : (m : ℤ) (t : Table) (c : List Charge) → potential_at (at_level one_site m) t c 0 ≡ pos 0
unfolding potential_at class_of near_class_of
no_potential m t c = refl

no_energy : (m : ℤ) (t : Table) (c : List Charge) → energy (at_level one_site m) t c ≡ pos 0
unfolding energy class_of near_class_of
no_energy m t c = refl

abbrev unit_table : Table
unit_table = record { scale = 1; potential = λ c. pos 0 }

unit_table_is : (m : ℤ) → IsTable (at_level one_site m) unit_table
unit_table_is m = record { positive = omega arith; above = λ c l. absurd (omega (arith, l)); below = λ c l. absurd (omega (arith, l)) }

negative_valid : (m : ℤ) → m ≤ℤ pos 0 → IsCertainlyValid (at_level one_site m) (Neg ∷ [])
negative_valid m low (at_site zero AboveMinus) (l, e) t is =
    let v = no_potential m t (Neg ∷ []) in
    let scaled = mul-le m (pos 0) t.scale low in omega (arith, ints, v, scaled)
negative_valid m low (at_site zero AbovePlus) (l, e) t is = absurd (cc)
negative_valid m low (at_site zero BelowMinus) (l, e) t is = absurd (cc)
negative_valid m low (at_site zero BelowPlus) (l, e) t is = absurd (cc)
negative_valid m low (at_site (suc i) k) (l, e) t is = absurd (omega (arith, l))
negative_valid m low (by_hop zero zero) (l, k, e) t is = absurd (omega (arith, e))
negative_valid m low (by_hop zero (suc j)) (l, k, e) t is = absurd (omega (arith, k))
negative_valid m low (by_hop (suc i) j) (l, k, e) t is = absurd (omega (arith, l))

neutral_valid : IsCertainlyValid (at_level one_site (pos 0)) (Neutral ∷ [])
neutral_valid (at_site zero AboveMinus) (l, inl e) t is = absurd (cc)
neutral_valid (at_site zero AboveMinus) (l, inr e) t is = absurd (cc)
neutral_valid (at_site zero AbovePlus) (l, e) t is = let v = no_potential (pos 0) t (Neutral ∷ []) in let positive = is.positive in omega (arith, ints, v, positive)
neutral_valid (at_site zero BelowMinus) (l, e) t is = let v = no_potential (pos 0) t (Neutral ∷ []) in omega (arith, ints, v)
neutral_valid (at_site zero BelowPlus) (l, inl e) t is = absurd (cc)
neutral_valid (at_site zero BelowPlus) (l, inr e) t is = absurd (cc)
neutral_valid (at_site (suc i) k) (l, e) t is = absurd (omega (arith, l))
neutral_valid (by_hop zero zero) (l, k, e) t is = absurd (omega (arith, e))
neutral_valid (by_hop zero (suc j)) (l, k, e) t is = absurd (omega (arith, k))
neutral_valid (by_hop (suc i) j) (l, k, e) t is = absurd (omega (arith, l))

-- a multiple of a level below 0 is below 0
scaled_below : (m : ℤ) (s : ℕ) → m <ℤ pos 0 → 1 ≤ s → (pos s *ℤ m) <ℤ pos 0
scaled_below m s low positive = let scaled = mul-le m (neg_ℤ (pos 1)) s (omega (arith, ints, low)) in omega (arith, ints, scaled, positive)

not_neutral : (m : ℤ) → m <ℤ pos 0 → IsPossiblyValid (at_level one_site m) (Neutral ∷ []) → ⊥
not_neutral m low v = by (v (at_site 0 BelowMinus) (omega arith, inr refl))
  where
    by : UnderSomeTable (at_level one_site m) (λ t. pos 0 ≤ℤ test_slack (at_level one_site m) (Neutral ∷ []) 0 BelowMinus t) → ⊥
    by (t, is, slack) =
        let none = no_potential m t (Neutral ∷ []) in
        let scaled = scaled_below m t.scale low is.positive in omega (arith, ints, slack, none, scaled)

not_positive : (m : ℤ) → m ≤ℤ pos 0 → IsPossiblyValid (at_level one_site m) (Pos ∷ []) → ⊥
not_positive m low v = by (v (at_site 0 BelowPlus) (omega arith, refl))
  where
    by : UnderSomeTable (at_level one_site m) (λ t. pos 0 ≤ℤ test_slack (at_level one_site m) (Pos ∷ []) 0 BelowPlus t) → ⊥
    by (t, is, slack) =
        let none = no_potential m t (Pos ∷ []) in
        let scaled = scaled_below (m -ℤ pos 590000000000) t.scale (omega (arith, ints, low)) is.positive in omega (arith, ints, slack, none, scaled)

negative_list : (m : ℤ) → IsChargeList (at_level one_site m) (Neg ∷ [])
negative_list m = record { whole = refl; of_base = ((λ two. absurd (omega (arith, two))), tt) }

neutral_list : (m : ℤ) → IsChargeList (at_level one_site m) (Neutral ∷ [])
neutral_list m = record { whole = refl; of_base = ((λ two. absurd (omega (arith, two))), tt) }

none_beats : (m : ℤ) (w c : List Charge) → Beats (at_level one_site m) w c → ⊥
none_beats m w c b =
    let less = b.lower unit_table (unit_table_is m) in
    let first = no_energy m unit_table w in
    let second = no_energy m unit_table c in omega (arith, ints, less, first, second)

listed : (m : ℤ) (c : List Charge) → IsChargeList (at_level one_site m) c → IsCertainlyValid (at_level one_site m) c → IsListed (at_level one_site m) c
listed m c list valid = record {
  is_list = list;
  possible = λ q h. (unit_table, unit_table_is m, valid q h unit_table (unit_table_is m));
  unbeaten = λ w b. none_beats m w c b;
}

-- no list has more energy than another
level_with : (m : ℤ) (c e : List Charge) → UnderEveryTable (at_level one_site m) (λ t. energy (at_level one_site m) t c ≤ℤ energy (at_level one_site m) t e)
level_with m c e t is = let first = no_energy m t c in let second = no_energy m t e in omega (arith, ints, first, second)

abbrev pub negative : Outcome
negative = record { charges = Neg ∷ []; certain = true }

abbrev pub neutral : Outcome
neutral = record { charges = Neutral ∷ []; certain = true }

-- below 0 the site is negative
pub answer_below : (m : ℤ) → m <ℤ pos 0 → IsAnswerAt one_site m (negative ∷ [])
answer_below m low = record {
  ground = record {
    in_order = λ i j d h l. absurd (omega (arith, h, l));
    all_listed = λ c h. (0, omega arith, sym (only c h));
    only_listed = All-cons (IsListed (at_level one_site m)) (Neg ∷ []) [] (listed m (Neg ∷ []) (negative_list m) valid) (All-nil _);
  };
  certain = All-cons (λ o. IsTrue o.certain ↔ IsCertain (at_level one_site m) ((Neg ∷ []) ∷ []) o.charges) negative [] (
    λ _. record {
      valid = valid;
      least = All-cons (λ e. UnderEveryTable (at_level one_site m) (λ t. energy (at_level one_site m) t (Neg ∷ []) ≤ℤ energy (at_level one_site m) t e)) (Neg ∷ []) [] (level_with m (Neg ∷ []) (Neg ∷ [])) (All-nil _);
    },
    λ _. refl,
  )
      (All-nil _);
}
  where
    valid : IsCertainlyValid (at_level one_site m) (Neg ∷ [])
    valid = negative_valid m (omega (arith, ints, low))

    only : (c : List Charge) → IsListed (at_level one_site m) c → c ≡ Neg ∷ []
    only [] h = absurd (let whole = h.is_list.whole in omega (arith, whole))
    only (x ∷ y ∷ ys) h = absurd (let whole = h.is_list.whole in omega (arith, whole))
    only (Neg ∷ []) h = refl
    only (Neutral ∷ []) h = absurd (not_neutral m low h.possible)
    only (Pos ∷ []) h = absurd (not_positive m (omega (arith, ints, low)) h.possible)

abbrev both : List (List Charge)
both = (Neg ∷ []) ∷ (Neutral ∷ []) ∷ []

both_in_order : (i j : ℕ) (d : List Charge) → i < j → j < 2 → IsBefore (slice_index_or both i d) (slice_index_or both j d)
both_in_order zero zero d h l = absurd (omega (arith, h))
both_in_order zero (suc zero) d h l = inl (omega arith)
both_in_order zero (suc (suc j)) d h l = absurd (omega (arith, l))
both_in_order (suc i) zero d h l = absurd (omega (arith, h))
both_in_order (suc i) (suc j) d h l = absurd (omega (arith, h, l))

both_held : (c : List Charge) → IsListed (at_level one_site (pos 0)) c → Contains both c
both_held [] h = absurd (let whole = h.is_list.whole in omega (arith, whole))
both_held (x ∷ y ∷ ys) h = absurd (let whole = h.is_list.whole in omega (arith, whole))
both_held (Neg ∷ []) h = (0, omega arith, refl)
both_held (Neutral ∷ []) h = (1, omega arith, refl)
both_held (Pos ∷ []) h = absurd (not_positive (pos 0) (omega (arith, ints)) h.possible)

negative_here : IsCertainlyValid (at_level one_site (pos 0)) (Neg ∷ [])
negative_here = negative_valid (pos 0) (omega (arith, ints))

abbrev IsAtMost : List Charge → List Charge → Type 0
IsAtMost c e = UnderEveryTable (at_level one_site (pos 0)) (λ t. energy (at_level one_site (pos 0)) t c ≤ℤ energy (at_level one_site (pos 0)) t e)

at_most_both : (c : List Charge) → All (IsAtMost c) both
at_most_both c = All-cons (IsAtMost c) (Neg ∷ []) ((Neutral ∷ []) ∷ []) (level_with (pos 0) c (Neg ∷ []))
    (All-cons (IsAtMost c) (Neutral ∷ []) [] (level_with (pos 0) c (Neutral ∷ [])) (All-nil (IsAtMost c)))

abbrev TellsAtZero : Outcome → Type 0
TellsAtZero o = IsTrue o.certain ↔ IsCertain (at_level one_site (pos 0)) both o.charges

-- at 0 it may be neutral as well
pub answer_at_zero : IsAnswerAt one_site (pos 0) (negative ∷ neutral ∷ [])
answer_at_zero = record {
  ground = record {
    in_order = both_in_order;
    all_listed = both_held;
    only_listed = All-cons (IsListed (at_level one_site (pos 0))) (Neg ∷ []) ((Neutral ∷ []) ∷ []) (listed (pos 0) (Neg ∷ []) (negative_list (pos 0)) negative_here)
        (All-cons (IsListed (at_level one_site (pos 0))) (Neutral ∷ []) [] (listed (pos 0) (Neutral ∷ []) (neutral_list (pos 0)) neutral_valid) (All-nil (IsListed (at_level one_site (pos 0)))));
  };
  certain = All-cons TellsAtZero negative (neutral ∷ []) (λ _. record { valid = negative_here; least = at_most_both (Neg ∷ []) }, λ _. refl)
      (All-cons TellsAtZero neutral [] (λ _. record { valid = neutral_valid; least = at_most_both (Neutral ∷ []) }, λ _. refl) (All-nil TellsAtZero));
}

abbrev pub below_zero : Printed
below_zero = printed_whole (neg_ℤ (pos 2)) (neg_ℤ (pos 1)) (negative ∷ [])

abbrev pub at_zero : Printed
at_zero = printed_whole (pos 0) (pos 0) (negative ∷ neutral ∷ [])

differ : negative ∷ [] ≡ negative ∷ neutral ∷ [] → ⊥
differ e = absurd (cc)

abbrev IsShown : Printed → Type 0
IsShown x = IsPrintedPart one_site three_levels x.first x.last x.answer

first_part : IsShown below_zero
first_part = record {
  from = omega (arith, ints);
  some = omega (arith, ints);
  to = omega (arith, ints);
  same = λ m low high. answer_below m (omega (arith, ints, high));
  before = λ h. absurd (omega (arith, ints, h));
  after = λ h there. differ (one_answer one_site (pos 0) (negative ∷ []) (negative ∷ neutral ∷ []) there answer_at_zero);
}

second_part : IsShown at_zero
second_part = record {
  from = omega (arith, ints);
  some = omega (arith, ints);
  to = omega (arith, ints);
  same = λ m low high. subst (λ z. IsAnswerAt one_site z (negative ∷ neutral ∷ [])) (omega (arith, ints, low, high)) answer_at_zero;
  before = λ h there. differ (one_answer one_site (neg_ℤ (pos 1)) (negative ∷ []) (negative ∷ neutral ∷ []) (answer_below (neg_ℤ (pos 1)) (omega (arith, ints))) there);
  after = λ h. absurd (omega (arith, ints, h));
}

-- so two parts are printed
pub two_parts : ArePrinted one_site three_levels (below_zero ∷ at_zero ∷ [])
two_parts = record {
  follow = (refl, omega (arith, ints), (refl, omega (arith, ints), refl));
  each = All-cons IsShown below_zero (at_zero ∷ []) first_part (All-cons IsShown at_zero [] second_part (All-nil IsShown));
  few = omega arith;
  whole = All-cons (λ (x : Printed). IsSome x.answer) below_zero (at_zero ∷ []) refl (All-cons (λ (x : Printed). IsSome x.answer) at_zero [] refl (All-nil (λ (x : Printed). IsSome x.answer)));
}
