-- what is not narrower, and what does not stay
use Rattle.std.proofs.Common.{◌≡◌, zero, suc, pos, negsuc, ◌+ℤ◌, ◌-ℤ◌, ◌*ℤ◌, ◌≤ℤ◌, [], ◌∷◌, ap, arith, inl, inr, refl}
use Rattle.std.specs.Prelude.{Contains}
use Rattle.std.proofs.lemmas.Int.{ints}
use Rattle.charge_model.specs.declared.charge.Test.TheVariants.{AboveMinus}
use Rattle.charge_model.specs.Charges.{IsBefore}
use Rattle.charge_model.specs.Problem.{Problem, Table, UnderSomeTable, class_of, near_class_of}
use Rattle.charge_model.specs.Rules.{potential_at, test_slack, at_site}
use Rattle.charge_model.proofs.StandardFacts.{span, two_sites, two_negative, lists}
use Rattle.narrower_laws.specs.Narrower.{AreStaying, IsNarrower, Stays}
use Rattle.narrower_laws.proofs.StandardFacts.{upper_sites, first_negative, second_negative, first_stays, first_beats}

no_other_level : IsNarrower two_sites (record upper_sites { mu_minus = negsuc 2 }) → ⊥
no_other_level is = let level : negsuc 2 ≡ negsuc 1 = ap (λ (p : Problem). p.mu_minus) is.rest in omega (arith, ints, level)

no_class_lost : IsNarrower two_sites (record upper_sites { spans = [] }) → ⊥
no_class_lost is = let count = is.count in omega (arith, count)

no_lower_end : IsNarrower two_sites (record two_sites { spans = span (pos 0) (pos 3) (omega (arith, ints)) ∷ [] }) → ⊥
no_lower_end is = let lo : pos 1 ≤ℤ pos 0 = is.lo 0 (omega arith) in omega (arith, ints, lo)

no_higher_end : IsNarrower two_sites (record two_sites { spans = span (pos 1) (pos 4) (omega (arith, ints)) ∷ [] }) → ⊥
no_higher_end is = let hi : pos 4 ≤ℤ pos 3 = is.hi 0 (omega arith) in omega (arith, ints, hi)

-- a list that was no entry
no_new_entry : Stays upper_sites [] first_negative → ⊥
no_new_entry stays = let (k, less, e) = stays.member in omega (arith, less)

-- where the potential is 3, two negative charges are not possible
abbrev highest_sites : Problem
highest_sites = record two_sites { spans = span (pos 3) (pos 3) (omega (arith, ints)) ∷ [] }

slack_is : (t : Table) → test_slack highest_sites two_negative 0 AboveMinus t ≡ (((pos 0 +ℤ pos 0) +ℤ t.potential 0 *ℤ negsuc 0) +ℤ pos 0) -ℤ pos t.scale *ℤ negsuc 1
unfolding potential_at class_of near_class_of
slack_is t = refl

no_impossible_entry : Stays highest_sites lists two_negative → ⊥
no_impossible_entry stays = by (stays.candidate.possible (at_site 0 AboveMinus) (omega arith, refl))
  where
    by : UnderSomeTable highest_sites (λ t. pos 0 ≤ℤ test_slack highest_sites two_negative 0 AboveMinus t) → ⊥
    by (t, is, held) =
        let low : (pos t.scale *ℤ pos 3) ≤ℤ t.potential 0 = is.above 0 (omega arith) in
        let own = slack_is t in
        let positive = is.positive in
        omega (arith, ints, low, own, held, positive)

-- from 2 on they are possible, and beaten
no_beaten_entry : Stays upper_sites lists two_negative → ⊥
no_beaten_entry stays = stays.unbeaten first_negative (1, omega arith, refl) first_beats

not_in_order : AreStaying upper_sites lists (second_negative ∷ first_negative ∷ []) → ⊥
not_in_order are = by (are.in_order 0 1 [] (omega arith) (omega arith))
  where
    by : IsBefore second_negative first_negative → ⊥
    by (inl h) = omega (arith, h)
    by (inr (e, h)) = absurd (cc)

-- one that stays is missing, or one that does not is kept
no_entry_lost : AreStaying upper_sites lists (second_negative ∷ []) → ⊥
no_entry_lost are = by ((are.exactly first_negative).1 first_stays)
  where
    by : Contains (second_negative ∷ []) first_negative → ⊥
    by (zero, less, e) = absurd (cc)
    by (suc k, less, e) = omega (arith, less)

no_entry_kept : AreStaying upper_sites lists lists → ⊥
no_entry_kept are = no_beaten_entry ((are.exactly two_negative).0 (0, omega arith, refl))
