-- one site beside a fixed charge, worked by hand: both its charge lists are certainly valid, and their energies 10 apart,
-- so that a window of 10 lists both and one of 9 the lower one alone
use Rattle.std.proofs.Common.{◌≡◌, ℕ, zero, suc, ◌<◌, pos, negsuc, ◌+ℤ◌, ◌*ℤ◌, ◌≤ℤ◌, ◌<ℤ◌, List, [], ◌∷◌, refl, sym, subst, arith, slice_index_or, ◌⊎◌, inl, inr}
use Rattle.std.proofs.lemmas.Int.{ints}
use Rattle.std.proofs.lemmas.List.Elements.{All-nil, All-cons}
use Rattle.std.proofs.lemmas.List.Kept.{AllPairs-cons}
use Rattle.charge_model.specs.declared.charge.Charge.{Charge}
use Rattle.charge_model.specs.declared.charge.Charge.TheVariants.{Neg, Neutral, Pos}
use Rattle.charge_model.specs.declared.charge.Test.TheVariants.{AboveMinus, AbovePlus, BelowMinus, BelowPlus}
use Rattle.charge_model.specs.declared.mark.Mark.TheVariants.{Certain}
use Rattle.charge_model.specs.Charges.{IsBefore, number_of}
use Rattle.charge_model.specs.Problem.{Problem, Table, IsTable, class_of, near_class_of, lo_in, hi_in, UnderEveryTable}
use Rattle.charge_model.specs.Rules.{energy, potential_at, at_site, by_hop, IsChargeList, IsPossiblyValid, IsCertainlyValid}
use Rattle.charge_model.specs.GroundList.{Entry, lists_of}
use Rattle.charge_model.proofs.StandardFacts.{span, table}
use Rattle.window_model.specs.Windows.{raised_energy, BeatsBy, IsWithin, IsCertainWithin, IsMarkWithin, IsMarkedWindowList}

abbrev pub two_lists : Problem
two_lists = record {
  sites = 1;
  base = 2;
  mu_minus = negsuc 9;
  mu_plus = negsuc 19;
  fixed_charges = negsuc 0 ∷ [];
  pair_classes = [];
  near_classes = 0 ∷ [];
  spans = span (pos 10) (pos 10) (omega (arith, ints)) ∷ [];
}

abbrev pub negative : List Charge
negative = Neg ∷ []

abbrev pub neutral : List Charge
neutral = Neutral ∷ []

the_potential : (t : Table) (x : Charge) → potential_at two_lists t (x ∷ []) 0 ≡ (pos 0 +ℤ pos 0) +ℤ (pos 0 +ℤ t.potential 0 *ℤ negsuc 0)
unfolding potential_at class_of near_class_of
the_potential t x = refl

the_energy : (t : Table) (x : Charge) → energy two_lists t (x ∷ []) ≡ (pos 0 +ℤ pos 0) +ℤ (pos 0 +ℤ (pos 0 +ℤ t.potential 0 *ℤ number_of x *ℤ negsuc 0))
unfolding energy class_of near_class_of
the_energy t x = refl

-- the fixed charge adds 10 to the energy of the negative site and nothing to that of the neutral one
negative_energy : (t : Table) → IsTable two_lists t → energy two_lists t negative ≡ pos t.scale *ℤ pos 10
negative_energy t is =
    let e = the_energy t Neg in
    let high : t.potential 0 ≤ℤ (pos t.scale *ℤ pos 10) = is.below 0 (omega arith) in
    let low : (pos t.scale *ℤ pos 10) ≤ℤ t.potential 0 = is.above 0 (omega arith) in omega (arith, ints, e, high, low)

neutral_energy : (t : Table) → energy two_lists t neutral ≡ pos 0
neutral_energy t = let e = the_energy t Neutral in omega (arith, ints, e)

-- its one table of scale 1
abbrev some_table : Table
some_table = table (pos 10 ∷ [])

some_table_is : IsTable two_lists some_table
some_table_is = record {
  positive = omega arith;
  above = at_least;
  below = at_most;
}
  where
    at_least : (c : ℕ) → c < 1 → (pos 1 *ℤ lo_in two_lists.spans c) ≤ℤ slice_index_or (pos 10 ∷ []) c (pos 0)
    at_least zero h = omega (arith, ints)
    at_least (suc c) h = absurd (omega (arith, h))

    at_most : (c : ℕ) → c < 1 → slice_index_or (pos 10 ∷ []) c (pos 0) ≤ℤ (pos 1 *ℤ hi_in two_lists.spans c)
    at_most zero h = omega (arith, ints)
    at_most (suc c) h = absurd (omega (arith, h))

-- the potential is the level: both charges pass their tests
negative_valid : IsCertainlyValid two_lists negative
negative_valid (at_site zero AboveMinus) (l, e) t is =
    let v = the_potential t Neg in
    let high : t.potential 0 ≤ℤ (pos t.scale *ℤ pos 10) = is.below 0 (omega arith) in omega (arith, ints, v, high)
negative_valid (at_site zero AbovePlus) (l, e) t is = absurd (cc)
negative_valid (at_site zero BelowMinus) (l, e) t is = absurd (cc)
negative_valid (at_site zero BelowPlus) (l, e) t is = absurd (cc)
negative_valid (at_site (suc i) k) (l, e) t is = absurd (omega (arith, l))
negative_valid (by_hop zero zero) (l, m, e) t is = absurd (omega (arith, e))
negative_valid (by_hop zero (suc j)) (l, m, e) t is = absurd (omega (arith, m))
negative_valid (by_hop (suc i) j) (l, m, e) t is = absurd (omega (arith, l))

neutral_valid : IsCertainlyValid two_lists neutral
neutral_valid (at_site zero AboveMinus) (l, inl e) t is = absurd (cc)
neutral_valid (at_site zero AboveMinus) (l, inr e) t is = absurd (cc)
neutral_valid (at_site zero AbovePlus) (l, e) t is =
    let v = the_potential t Neutral in
    let high : t.potential 0 ≤ℤ (pos t.scale *ℤ pos 10) = is.below 0 (omega arith) in omega (arith, ints, v, high)
neutral_valid (at_site zero BelowMinus) (l, e) t is =
    let v = the_potential t Neutral in
    let low : (pos t.scale *ℤ pos 10) ≤ℤ t.potential 0 = is.above 0 (omega arith) in omega (arith, ints, v, low)
neutral_valid (at_site zero BelowPlus) (l, inl e) t is = absurd (cc)
neutral_valid (at_site zero BelowPlus) (l, inr e) t is = absurd (cc)
neutral_valid (at_site (suc i) k) (l, e) t is = absurd (omega (arith, l))
neutral_valid (by_hop zero zero) (l, m, e) t is = absurd (omega (arith, e))
neutral_valid (by_hop zero (suc j)) (l, m, e) t is = absurd (omega (arith, m))
neutral_valid (by_hop (suc i) j) (l, m, e) t is = absurd (omega (arith, l))

-- there are no others
only_two : (c : List Charge) → IsChargeList two_lists c → (c ≡ negative) ⊎ (c ≡ neutral)
only_two [] list = absurd (omega (arith, list.whole))
only_two (x ∷ y ∷ ys) list = absurd (omega (arith, list.whole))
only_two (Neg ∷ []) list = inl refl
only_two (Neutral ∷ []) list = inr refl
only_two (Pos ∷ []) list = absurd (list.of_base.0 refl refl)

negative_list : IsChargeList two_lists negative
negative_list = record { whole = refl; of_base = ((λ two e. absurd (cc)), tt) }

neutral_list : IsChargeList two_lists neutral
neutral_list = record { whole = refl; of_base = ((λ two e. absurd (cc)), tt) }

possible : (c : List Charge) → IsCertainlyValid two_lists c → IsPossiblyValid two_lists c
possible c valid q of_list = (some_table, some_table_is, valid q of_list some_table some_table_is)

-- no energy is below 0 or above 10
at_least_zero : (t : Table) → IsTable two_lists t → (c : List Charge) → (c ≡ negative) ⊎ (c ≡ neutral) → pos 0 ≤ℤ energy two_lists t c
at_least_zero t is c (inl e) = subst (λ d. pos 0 ≤ℤ energy two_lists t d) (sym e) (let ten = negative_energy t is in omega (arith, ints, ten))
at_least_zero t is c (inr e) = subst (λ d. pos 0 ≤ℤ energy two_lists t d) (sym e) (let none = neutral_energy t in omega (arith, ints, none))

at_most_ten : (t : Table) → IsTable two_lists t → (c : List Charge) → (c ≡ negative) ⊎ (c ≡ neutral) → energy two_lists t c ≤ℤ (pos t.scale *ℤ pos 10)
at_most_ten t is c (inl e) = subst (λ d. energy two_lists t d ≤ℤ (pos t.scale *ℤ pos 10)) (sym e) (let ten = negative_energy t is in omega (arith, ints, ten))
at_most_ten t is c (inr e) = subst (λ d. energy two_lists t d ≤ℤ (pos t.scale *ℤ pos 10)) (sym e) (let none = neutral_energy t in omega (arith, ints, none))

-- so none beats another by 10, and none is above another by more
none_beats_by_ten : (w c : List Charge) → (c ≡ negative) ⊎ (c ≡ neutral) → BeatsBy two_lists (pos 10) w c → ⊥
none_beats_by_ten w c which b =
    let less : raised_energy two_lists (pos 10) some_table w <ℤ energy two_lists some_table c = b.lower some_table some_table_is in
    let low = at_least_zero some_table some_table_is w (only_two w b.is_list) in
    let high : energy two_lists some_table c ≤ℤ (pos 1 *ℤ pos 10) = at_most_ten some_table some_table_is c which in omega (arith, ints, less, low, high)

none_above_by_ten : (c e : List Charge) → (c ≡ negative) ⊎ (c ≡ neutral) → (e ≡ negative) ⊎ (e ≡ neutral)
    → UnderEveryTable two_lists (λ t. energy two_lists t c ≤ℤ raised_energy two_lists (pos 10) t e)
none_above_by_ten c e first second t is = let high = at_most_ten t is c first in let low = at_least_zero t is e second in omega (arith, ints, high, low)

-- both entries are certain
abbrev pub both : List Entry
both = record { charges = negative; mark = Certain } ∷ record { charges = neutral; mark = Certain } ∷ []

certain_among_both : (c : List Charge) → (c ≡ negative) ⊎ (c ≡ neutral) → IsCertainlyValid two_lists c → IsCertainWithin two_lists (pos 10) (lists_of both) c
certain_among_both c which valid =
    let least = λ (e : List Charge). UnderEveryTable two_lists (λ t. energy two_lists t c ≤ℤ raised_energy two_lists (pos 10) t e) in record {
      valid = valid;
      least = All-cons least negative (neutral ∷ []) (none_above_by_ten c negative which (inl refl))
          (All-cons least neutral [] (none_above_by_ten c neutral which (inr refl)) (All-nil least));
    }

within_ten : (c : List Charge) → (c ≡ negative) ⊎ (c ≡ neutral) → IsChargeList two_lists c → IsCertainlyValid two_lists c → IsWithin two_lists (pos 10) c
within_ten c which list valid = record { is_list = list; possible = possible c valid; unbeaten = λ w b. none_beats_by_ten w c which b }

member : (c : List Charge) → (c ≡ negative) ⊎ (c ≡ neutral) → (k : ℕ) × (k < 2) × (slice_index_or (negative ∷ neutral ∷ []) k c ≡ c)
member c (inl e) = (0, omega arith, sym e)
member c (inr e) = (1, omega arith, sym e)

pub window_of_ten : IsMarkedWindowList two_lists (pos 10) both
window_of_ten =
    let is_mark = λ (e : Entry). IsMarkWithin two_lists (pos 10) (lists_of both) e.charges e.mark in record {
      within = record {
        in_order = AllPairs-cons IsBefore negative (neutral ∷ []) (All-cons (IsBefore negative) neutral [] (inl (omega arith)) (All-nil (IsBefore negative)))
            (λ i j d h l. absurd (omega (arith, h, l)));
        all_listed = λ c h. member c (only_two c h.is_list);
        only_listed = All-cons (IsWithin two_lists (pos 10)) negative (neutral ∷ []) (within_ten negative (inl refl) negative_list negative_valid)
            (All-cons (IsWithin two_lists (pos 10)) neutral [] (within_ten neutral (inr refl) neutral_list neutral_valid) (All-nil _));
      };
      marks = All-cons is_mark (record { charges = negative; mark = Certain }) (record { charges = neutral; mark = Certain } ∷ []) (certain_among_both negative (inl refl) negative_valid)
          (All-cons is_mark (record { charges = neutral; mark = Certain }) [] (certain_among_both neutral (inr refl) neutral_valid) (All-nil is_mark));
    }

-- by 9 the neutral list beats the negative one
pub neutral_beats_by_nine : BeatsBy two_lists (pos 9) neutral negative
neutral_beats_by_nine = record {
  is_list = neutral_list;
  certain = neutral_valid;
  lower = λ t is. let none = neutral_energy t in let ten = negative_energy t is in let positive = is.positive in omega (arith, ints, none, ten, positive);
}

none_beats_neutral : (w : List Charge) → BeatsBy two_lists (pos 9) w neutral → ⊥
none_beats_neutral w b =
    let less : raised_energy two_lists (pos 9) some_table w <ℤ energy two_lists some_table neutral = b.lower some_table some_table_is in
    let low = at_least_zero some_table some_table_is w (only_two w b.is_list) in let none = neutral_energy some_table in omega (arith, ints, less, low, none)

-- and is the one entry
abbrev pub lower_one : List Entry
lower_one = record { charges = neutral; mark = Certain } ∷ []

only_neutral : (c : List Charge) → (c ≡ negative) ⊎ (c ≡ neutral) → IsWithin two_lists (pos 9) c → c ≡ neutral
only_neutral c (inl e) within = absurd (within.unbeaten neutral (subst (BeatsBy two_lists (pos 9) neutral) (sym e) neutral_beats_by_nine))
only_neutral c (inr e) within = e

pub window_of_nine : IsMarkedWindowList two_lists (pos 9) lower_one
window_of_nine =
    let is_mark = λ (e : Entry). IsMarkWithin two_lists (pos 9) (lists_of lower_one) e.charges e.mark in
    let least = λ (e : List Charge). UnderEveryTable two_lists (λ t. energy two_lists t neutral ≤ℤ raised_energy two_lists (pos 9) t e) in record {
      within = record {
        in_order = λ i j d h l. absurd (omega (arith, h, l));
        all_listed = λ c h. (0, omega arith, sym (only_neutral c (only_two c h.is_list) h));
        only_listed = All-cons (IsWithin two_lists (pos 9)) neutral [] (record { is_list = neutral_list; possible = possible neutral neutral_valid; unbeaten = none_beats_neutral }) (All-nil _);
      };
      marks = All-cons is_mark (record { charges = neutral; mark = Certain }) [] (record { valid = neutral_valid; least = All-cons least neutral [] (λ t is. omega (arith, ints)) (All-nil least) }) (All-nil is_mark);
    }
