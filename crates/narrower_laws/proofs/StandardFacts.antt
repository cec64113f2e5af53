-- two sites of which less is known, and more: worked by hand
use Rattle.std.proofs.Common.{◌≡◌, ℕ, zero, suc, ◌<◌, ℤ, pos, ◌+ℤ◌, ◌*ℤ◌, ◌≤ℤ◌, List, [], ◌∷◌, refl, sym, subst, arith, inl, inr, slice_index_or, Some, None}
use Rattle.std.specs.Prelude.{Contains}
use Rattle.std.proofs.lemmas.Int.{ints}
use Rattle.charge_model.specs.declared.charge.Charge.{Charge}
use Rattle.charge_model.specs.declared.charge.Charge.TheVariants.{Neg, Neutral, Pos}
use Rattle.charge_model.specs.declared.charge.Test.TheVariants.{AboveMinus, AbovePlus, BelowMinus, BelowPlus}
use Rattle.charge_model.specs.Charges.{IsBefore, number_of}
use Rattle.charge_model.specs.Problem.{Problem, Table, IsTable, class_of, near_class_of, lo_in, hi_in}
use Rattle.charge_model.specs.Rules.{energy, potential_at, test_slack, at_site, by_hop, Beats, IsChargeList, IsCertainlyValid}
use Rattle.charge_model.specs.GroundList.{IsCandidate}
use Rattle.charge_model.specs.Prefixes.{least_fixed, greatest_fixed, least_potential, greatest_potential, may_be_positive, can_be, least_known, greatest_known, site_low, pair_low, low}
use Rattle.charge_model.specs.Tree.{is_open, is_node, node_count, IsLeastCertain, IsGreatestOf}
use Rattle.charge_model.proofs.StandardFacts.{span, table, two_sites, two_sites_table, two_negative, lists, first_slack}
use Rattle.narrower_laws.specs.Narrower.{AreStaying, IsNarrower, Stays}

-- the potential of the two sites is from 2 to 3, where it was from 1 to 3
abbrev pub upper_sites : Problem
upper_sites = record two_sites { spans = span (pos 2) (pos 3) (omega (arith, ints)) ∷ [] }

pub upper_is_narrower : IsNarrower two_sites upper_sites
upper_is_narrower = record { rest = refl; count = refl; lo = lo; hi = hi }
  where
    lo : (c : ℕ) → c < 1 → lo_in two_sites.spans c ≤ℤ lo_in upper_sites.spans c
    lo zero l = omega (arith, ints)
    lo (suc c) l = absurd (omega (arith, l))

    hi : (c : ℕ) → c < 1 → hi_in upper_sites.spans c ≤ℤ hi_in two_sites.spans c
    hi zero l = omega (arith, ints)
    hi (suc c) l = absurd (omega (arith, l))

abbrev pub first_negative : List Charge
first_negative = Neg ∷ Neutral ∷ []

abbrev pub second_negative : List Charge
second_negative = Neutral ∷ Neg ∷ []

pub upper_table : IsTable upper_sites (table (pos 2 ∷ []))
upper_table = record { positive = omega arith; above = at_least; below = at_most }
  where
    at_least : (c : ℕ) → c < 1 → (pos 1 *ℤ lo_in upper_sites.spans c) ≤ℤ slice_index_or (pos 2 ∷ []) c (pos 0)
    at_least zero h = omega (arith, ints)
    at_least (suc c) h = absurd (omega (arith, h))

    at_most : (c : ℕ) → c < 1 → slice_index_or (pos 2 ∷ []) c (pos 0) ≤ℤ (pos 1 *ℤ hi_in upper_sites.spans c)
    at_most zero h = omega (arith, ints)
    at_most (suc c) h = absurd (omega (arith, h))

-- the energy and the two potentials, with their sums written out
energy_is : (t : Table) (a b : Charge) → energy upper_sites t (a ∷ b ∷ []) ≡ ((pos 0 +ℤ pos 0) +ℤ (pos 0 +ℤ t.potential 0 *ℤ number_of a *ℤ number_of b)) +ℤ ((pos 0 +ℤ pos 0) +ℤ pos 0)
unfolding energy class_of near_class_of
energy_is t a b = refl

first_potential : (t : Table) (a b : Charge) → potential_at upper_sites t (a ∷ b ∷ []) 0 ≡ ((pos 0 +ℤ pos 0) +ℤ t.potential 0 *ℤ number_of b) +ℤ pos 0
unfolding potential_at class_of near_class_of
first_potential t a b = refl

second_potential : (t : Table) (a b : Charge) → potential_at upper_sites t (a ∷ b ∷ []) 1 ≡ ((pos 0 +ℤ t.potential 0 *ℤ number_of a) +ℤ pos 0) +ℤ pos 0
unfolding potential_at class_of near_class_of
second_potential t a b = refl

pub first_certain : IsCertainlyValid upper_sites first_negative
first_certain (at_site zero AboveMinus) (l, e) t is = let v = first_potential t Neg Neutral in omega (arith, ints, v)
first_certain (at_site zero AbovePlus) (l, e) t is = absurd (cc)
first_certain (at_site zero BelowMinus) (l, e) t is = absurd (cc)
first_certain (at_site zero BelowPlus) (l, e) t is = absurd (cc)
first_certain (at_site (suc zero) AboveMinus) (l, inl e) t is = absurd (cc)
first_certain (at_site (suc zero) AboveMinus) (l, inr e) t is = absurd (cc)
first_certain (at_site (suc zero) AbovePlus) (l, e) t is =
    let v = second_potential t Neg Neutral in let high : t.potential 0 ≤ℤ (pos t.scale *ℤ pos 3) = is.below 0 (omega arith) in omega (arith, ints, v, high)
first_certain (at_site (suc zero) BelowMinus) (l, e) t is =
    let v = second_potential t Neg Neutral in let low : (pos t.scale *ℤ pos 2) ≤ℤ t.potential 0 = is.above 0 (omega arith) in omega (arith, ints, v, low)
first_certain (at_site (suc zero) BelowPlus) (l, inl e) t is = absurd (cc)
first_certain (at_site (suc zero) BelowPlus) (l, inr e) t is = absurd (cc)
first_certain (at_site (suc (suc i)) k) (l, e) t is = absurd (omega (arith, l))
first_certain (by_hop zero zero) (l, m, e) t is = absurd (omega (arith, e))
first_certain (by_hop zero (suc zero)) (l, m, e) t is = let before = energy_is t Neg Neutral in let after = energy_is t Neutral Neg in omega (arith, ints, before, after)
first_certain (by_hop zero (suc (suc j))) (l, m, e) t is = absurd (omega (arith, m))
first_certain (by_hop (suc zero) zero) (l, m, e) t is = absurd (omega (arith, e))
first_certain (by_hop (suc zero) (suc zero)) (l, m, e) t is = absurd (omega (arith, e))
first_certain (by_hop (suc zero) (suc (suc j))) (l, m, e) t is = absurd (omega (arith, m))
first_certain (by_hop (suc (suc i)) j) (l, m, e) t is = absurd (omega (arith, l))

second_certain : IsCertainlyValid upper_sites second_negative
second_certain (at_site zero AboveMinus) (l, inl e) t is = absurd (cc)
second_certain (at_site zero AboveMinus) (l, inr e) t is = absurd (cc)
second_certain (at_site zero AbovePlus) (l, e) t is =
    let v = first_potential t Neutral Neg in let high : t.potential 0 ≤ℤ (pos t.scale *ℤ pos 3) = is.below 0 (omega arith) in omega (arith, ints, v, high)
second_certain (at_site zero BelowMinus) (l, e) t is =
    let v = first_potential t Neutral Neg in let low : (pos t.scale *ℤ pos 2) ≤ℤ t.potential 0 = is.above 0 (omega arith) in omega (arith, ints, v, low)
second_certain (at_site zero BelowPlus) (l, inl e) t is = absurd (cc)
second_certain (at_site zero BelowPlus) (l, inr e) t is = absurd (cc)
second_certain (at_site (suc zero) AboveMinus) (l, e) t is = let v = second_potential t Neutral Neg in omega (arith, ints, v)
second_certain (at_site (suc zero) AbovePlus) (l, e) t is = absurd (cc)
second_certain (at_site (suc zero) BelowMinus) (l, e) t is = absurd (cc)
second_certain (at_site (suc zero) BelowPlus) (l, e) t is = absurd (cc)
second_certain (at_site (suc (suc i)) k) (l, e) t is = absurd (omega (arith, l))
second_certain (by_hop zero zero) (l, m, e) t is = absurd (omega (arith, e))
second_certain (by_hop zero (suc zero)) (l, m, e) t is = absurd (omega (arith, e))
second_certain (by_hop zero (suc (suc j))) (l, m, e) t is = absurd (omega (arith, m))
second_certain (by_hop (suc zero) zero) (l, m, e) t is = let before = energy_is t Neutral Neg in let after = energy_is t Neg Neutral in omega (arith, ints, before, after)
second_certain (by_hop (suc zero) (suc zero)) (l, m, e) t is = absurd (omega (arith, e))
second_certain (by_hop (suc zero) (suc (suc j))) (l, m, e) t is = absurd (omega (arith, m))
second_certain (by_hop (suc (suc i)) j) (l, m, e) t is = absurd (omega (arith, l))

pub of_base_three : (a b : Charge) → IsChargeList upper_sites (a ∷ b ∷ [])
of_base_three a b = record { whole = refl; of_base = (λ two. absurd (omega (arith, two)), (λ two. absurd (omega (arith, two)), tt)) }

candidate : (a b : Charge) → IsCertainlyValid upper_sites (a ∷ b ∷ []) → IsCandidate upper_sites (a ∷ b ∷ [])
candidate a b valid = record { is_list = of_base_three a b; possible = λ q of. (table (pos 2 ∷ []), upper_table, valid q of (table (pos 2 ∷ [])) upper_table) }

-- two negative charges have more energy than one, which is certainly valid now
pub first_beats : Beats upper_sites first_negative two_negative
first_beats = record {
  is_list = of_base_three Neg Neutral;
  certain = first_certain;
  lower = λ t is.
      let less = energy_is t Neg Neutral in
      let more = energy_is t Neg Neg in
      let low : (pos t.scale *ℤ pos 2) ≤ℤ t.potential 0 = is.above 0 (omega arith) in
      let positive = is.positive in
      omega (arith, ints, less, more, low, positive);
}

-- none of the wider problem's list beats one negative charge
none_beats : (c w : List Charge) → energy upper_sites (table (pos 2 ∷ [])) c ≡ pos 0 → Contains lists w → Beats upper_sites w c → ⊥
none_beats c w none (zero, l, e) beats = let less = (subst (λ z. Beats upper_sites z c) (sym e) beats).lower (table (pos 2 ∷ [])) upper_table in let own = energy_is (table (pos 2 ∷ [])) Neg Neg in omega (arith, ints, less, none, own)
none_beats c w none (suc zero, l, e) beats =
    let less = (subst (λ z. Beats upper_sites z c) (sym e) beats).lower (table (pos 2 ∷ [])) upper_table in let own = energy_is (table (pos 2 ∷ [])) Neg Neutral in omega (arith, ints, less, none, own)
none_beats c w none (suc (suc zero), l, e) beats =
    let less = (subst (λ z. Beats upper_sites z c) (sym e) beats).lower (table (pos 2 ∷ [])) upper_table in let own = energy_is (table (pos 2 ∷ [])) Neutral Neg in omega (arith, ints, less, none, own)
none_beats c w none (suc (suc (suc k)), l, e) beats = absurd (omega (arith, l))

pub first_stays : Stays upper_sites lists first_negative
first_stays = record {
  member = (1, omega arith, refl);
  candidate = candidate Neg Neutral first_certain;
  unbeaten = λ w held beats. none_beats first_negative w (let own = energy_is (table (pos 2 ∷ [])) Neg Neutral in omega (arith, ints, own)) held beats;
}

second_stays : Stays upper_sites lists second_negative
second_stays = record {
  member = (2, omega arith, refl);
  candidate = candidate Neutral Neg second_certain;
  unbeaten = λ w held beats. none_beats second_negative w (let own = energy_is (table (pos 2 ∷ [])) Neutral Neg in omega (arith, ints, own)) held beats;
}

abbrev pub one_negative : List (List Charge)
one_negative = first_negative ∷ second_negative ∷ []

in_order : (i j : ℕ) (d : List Charge) → i < j → j < 2 → IsBefore (slice_index_or one_negative i d) (slice_index_or one_negative j d)
in_order zero zero d h l = absurd (omega (arith, h))
in_order zero (suc zero) d h l = inl (omega arith)
in_order zero (suc (suc j)) d h l = absurd (omega (arith, l))
in_order (suc i) zero d h l = absurd (omega (arith, h))
in_order (suc i) (suc j) d h l = absurd (omega (arith, h, l))

-- of the three lists two stay
pub two_stay : AreStaying upper_sites lists one_negative
two_stay = record { in_order = in_order; exactly = λ c. (stays c, held c) }
  where
    stays : (c : List Charge) → Contains one_negative c → Stays upper_sites lists c
    stays c (zero, l, e) = subst (Stays upper_sites lists) e first_stays
    stays c (suc zero, l, e) = subst (Stays upper_sites lists) e second_stays
    stays c (suc (suc k), l, e) = absurd (omega (arith, l))

    by : (c : List Charge) → Contains lists c → Stays upper_sites lists c → Contains one_negative c
    by c (zero, l, e) stays = absurd (stays.unbeaten first_negative (1, omega arith, refl) (subst (Beats upper_sites first_negative) e first_beats))
    by c (suc zero, l, e) stays = (0, omega arith, e)
    by c (suc (suc zero), l, e) stays = (1, omega arith, e)
    by c (suc (suc (suc k)), l, e) stays = absurd (omega (arith, l))

    held : (c : List Charge) → Stays upper_sites lists c → Contains one_negative c
    held c stays = by c stays.member stays

-- where the potential may be 1, no list is certainly valid
refuted : (a b : Charge) → IsCertainlyValid two_sites (a ∷ b ∷ []) → ⊥
unfolding potential_at class_of near_class_of
refuted Neg Neg v = let held = v (at_site 0 AboveMinus) (omega arith, refl) (table (pos 3 ∷ [])) (two_sites_table 3 (omega arith) (omega arith)) in let e = first_slack (table (pos 3 ∷ [])) in omega (arith, ints, held, e)
refuted Neg Neutral v = let held = v (at_site 1 BelowMinus) (omega arith, inr refl) (table (pos 1 ∷ [])) (two_sites_table 1 (omega arith) (omega arith)) in omega (arith, ints, held)
refuted Neutral Neg v = let held = v (at_site 0 BelowMinus) (omega arith, inr refl) (table (pos 1 ∷ [])) (two_sites_table 1 (omega arith) (omega arith)) in omega (arith, ints, held)
refuted Neutral Neutral v = let held = v (at_site 0 BelowMinus) (omega arith, inr refl) (table (pos 1 ∷ [])) (two_sites_table 1 (omega arith) (omega arith)) in omega (arith, ints, held)
refuted Pos b v = let held = v (at_site 0 BelowPlus) (omega arith, refl) (table (pos 1 ∷ [])) (two_sites_table 1 (omega arith) (omega arith)) in by b held
  where
    by : (b : Charge) → pos 0 ≤ℤ test_slack two_sites (Pos ∷ b ∷ []) 0 BelowPlus (table (pos 1 ∷ [])) → ⊥
    by Neg held = omega (arith, ints, held)
    by Neutral held = omega (arith, ints, held)
    by Pos held = omega (arith, ints, held)
refuted Neg Pos v = let held = v (at_site 1 BelowPlus) (omega arith, refl) (table (pos 1 ∷ [])) (two_sites_table 1 (omega arith) (omega arith)) in omega (arith, ints, held)
refuted Neutral Pos v = let held = v (at_site 1 BelowPlus) (omega arith, refl) (table (pos 1 ∷ [])) (two_sites_table 1 (omega arith) (omega arith)) in omega (arith, ints, held)

none_certain : IsLeastCertain two_sites None
none_certain [] list v = absurd (omega (arith, list.whole))
none_certain (a ∷ []) list v = absurd (omega (arith, list.whole))
none_certain (a ∷ b ∷ []) list v = refuted a b v
none_certain (a ∷ b ∷ c ∷ cs) list v = absurd (omega (arith, list.whole))

-- a positive charge beside a negative one is not valid, and no other list has an energy below 0
no_less : (t : Table) → IsTable upper_sites t → t.scale ≡ 1 → (a b : Charge) → IsCertainlyValid upper_sites (a ∷ b ∷ []) → pos 0 ≤ℤ energy upper_sites t (a ∷ b ∷ [])
no_less t is one Neg Neg v = let own = energy_is t Neg Neg in let low : (pos t.scale *ℤ pos 2) ≤ℤ t.potential 0 = is.above 0 (omega arith) in omega (arith, ints, own, low)
no_less t is one Neg Neutral v = let own = energy_is t Neg Neutral in omega (arith, ints, own)
no_less t is one Neutral Neg v = let own = energy_is t Neutral Neg in omega (arith, ints, own)
no_less t is one Neutral Neutral v = let own = energy_is t Neutral Neutral in omega (arith, ints, own)
no_less t is one Neutral Pos v = let own = energy_is t Neutral Pos in omega (arith, ints, own)
no_less t is one Pos Neutral v = let own = energy_is t Pos Neutral in omega (arith, ints, own)
no_less t is one Pos Pos v = let own = energy_is t Pos Pos in let low : (pos t.scale *ℤ pos 2) ≤ℤ t.potential 0 = is.above 0 (omega arith) in omega (arith, ints, own, low)
no_less t is one Neg Pos v =
    let held = v (at_site 1 BelowPlus) (omega arith, refl) t is in
    let own = second_potential t Neg Pos in
    let high : t.potential 0 ≤ℤ (pos t.scale *ℤ pos 3) = is.below 0 (omega arith) in
    absurd (omega (arith, ints, held, own, high, one))
no_less t is one Pos Neg v =
    let held = v (at_site 0 BelowPlus) (omega arith, refl) t is in
    let own = first_potential t Pos Neg in
    let high : t.potential 0 ≤ℤ (pos t.scale *ℤ pos 3) = is.below 0 (omega arith) in
    absurd (omega (arith, ints, held, own, high, one))

zero_certain : IsLeastCertain upper_sites (Some (pos 0))
zero_certain = record {
  attained = (
    first_negative,
    record {
      is_list = of_base_three Neg Neutral;
      valid = first_certain;
      reached = record {
        bounds = λ t is. let own = energy_is t Neg Neutral in omega (arith, ints, own);
        reached = (table (pos 2 ∷ []), upper_table, (refl, let own = energy_is (table (pos 2 ∷ [])) Neg Neutral in omega (arith, ints, own)));
      };
    },
  );
  least = λ e (w, best). by e w best;
}
  where
    by : (e : ℤ) (w : List Charge) → IsGreatestOf upper_sites w e → pos 0 ≤ℤ e
    by e [] best = absurd (let whole = best.is_list.whole in omega (arith, whole))
    by e (a ∷ []) best = absurd (let whole = best.is_list.whole in omega (arith, whole))
    by e (a ∷ b ∷ []) best =
        let (t, is, at) = best.reached.reached in
        let least = no_less t is at.0 a b best.valid in
        let same = at.1 in
        omega (arith, ints, least, same)
    by e (a ∷ b ∷ c ∷ cs) best = absurd (let whole = best.is_list.whole in omega (arith, whole))

-- so six nodes become five
six_nodes : node_count two_sites None ≡ 6
unfolding node_count is_node is_open low pair_low site_low least_known greatest_known can_be greatest_potential greatest_fixed may_be_positive least_potential least_fixed class_of near_class_of
six_nodes = refl

five_nodes : node_count upper_sites (Some (pos 0)) ≡ 5
unfolding node_count is_node is_open low pair_low site_low least_known greatest_known can_be greatest_potential greatest_fixed may_be_positive least_potential least_fixed class_of near_class_of
five_nodes = refl
