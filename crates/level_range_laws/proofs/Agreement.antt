-- levels at which the same lists are possibly valid, and the same certainly, have the same answers
use Rattle.std.proofs.Common.{ℕ, ◌<◌, List, length, get_or, ℤ, ◌≤ℤ◌, ◌<ℤ◌, sym, subst}
use Rattle.std.proofs.lemmas.List.{get_or-map, length-map}
use Rattle.std.proofs.lemmas.List.Elements.{All-weaker}
use Rattle.charge_model.specs.declared.charge.Charge.{Charge}
use Rattle.charge_model.specs.Problem.{Problem}
use Rattle.charge_model.specs.Rules.{energy, IsChargeList, Beats}
use Rattle.charge_model.specs.GroundList.{IsListed, IsGroundList, IsCertain}
use Rattle.level_range_laws.specs.Levels.{at_level, IsLower, IsNeverAbove, HaveSameValidity}
use Rattle.level_range_laws.specs.Answers.{Outcome, lists_of_outcomes, IsAnswerAt}
use Rattle.level_range_laws.proofs.LevelFacts.{energy_at, table_at, table_of, list_at, list_of}

-- orders of energies at a level are those of the problem
pub lower_at : (p : Problem) (m : ℤ) (w c : List Charge) → IsLower p w c → IsLower (at_level p m) w c
lower_at p m w c h t is = subst (λ x. x <ℤ energy (at_level p m) t c) (sym (energy_at p m t w)) (subst (λ x. energy p t w <ℤ x) (sym (energy_at p m t c)) (h t (table_of p m t is)))

pub lower_of : (p : Problem) (m : ℤ) (w c : List Charge) → IsLower (at_level p m) w c → IsLower p w c
lower_of p m w c h t is = subst (λ x. x <ℤ energy p t c) (energy_at p m t w) (subst (λ x. energy (at_level p m) t w <ℤ x) (energy_at p m t c) (h t (table_at p m t is)))

pub not_above_at : (p : Problem) (m : ℤ) (c e : List Charge) → IsNeverAbove p c e → IsNeverAbove (at_level p m) c e
not_above_at p m c e h t is = subst (λ x. x ≤ℤ energy (at_level p m) t e) (sym (energy_at p m t c)) (subst (λ x. energy p t c ≤ℤ x) (sym (energy_at p m t e)) (h t (table_of p m t is)))

pub not_above_of : (p : Problem) (m : ℤ) (c e : List Charge) → IsNeverAbove (at_level p m) c e → IsNeverAbove p c e
not_above_of p m c e h t is = subst (λ x. x ≤ℤ energy p t e) (energy_at p m t c) (subst (λ x. energy (at_level p m) t c ≤ℤ x) (energy_at p m t e) (h t (table_at p m t is)))

beats_too : (p : Problem) (a b : ℤ) (w c : List Charge) → HaveSameValidity p a b → Beats (at_level p b) w c → Beats (at_level p a) w c
beats_too p a b w c same h =
    let list = list_of p b w h.is_list in
    record { is_list = list_at p a w list; certain = (same.certain w list).1 h.certain; lower = lower_at p a w c (lower_of p b w c h.lower) }

pub turned : (p : Problem) (a b : ℤ) → HaveSameValidity p a b → HaveSameValidity p b a
turned p a b same = record {
  possible = λ c is. let e = same.possible c is in (e.1, e.0);
  certain = λ c is. let e = same.certain c is in (e.1, e.0);
}

listed_too : (p : Problem) (a b : ℤ) (c : List Charge) → HaveSameValidity p a b → IsListed (at_level p a) c → IsListed (at_level p b) c
listed_too p a b c same h =
    let list = list_of p a c h.is_list in
    record { is_list = list_at p b c list; possible = (same.possible c list).0 h.possible; unbeaten = λ w beats. h.unbeaten w (beats_too p a b w c same beats) }

pub ground_too : (p : Problem) (a b : ℤ) (l : List (List Charge)) → HaveSameValidity p a b → IsGroundList (at_level p a) l → IsGroundList (at_level p b) l
ground_too p a b l same g = record {
  in_order = g.in_order;
  all_listed = λ c h. g.all_listed c (listed_too p b a c (turned p a b same) h);
  only_listed = All-weaker (IsListed (at_level p a)) (IsListed (at_level p b)) (λ c h. listed_too p a b c same h) l g.only_listed;
}

certain_too : (p : Problem) (a b : ℤ) (l : List (List Charge)) (c : List Charge) → HaveSameValidity p a b → IsChargeList p c → IsCertain (at_level p a) l c → IsCertain (at_level p b) l c
certain_too p a b l c same list h = record {
  valid = (same.certain c list).0 h.valid;
  least = All-weaker (IsNeverAbove (at_level p a) c) (IsNeverAbove (at_level p b) c) (λ e k. not_above_at p b c e (not_above_of p a c e k)) l h.least;
}

-- the entry in a place is a list of the problem
list_in : (p : Problem) (m : ℤ) (answer : List Outcome) (k : ℕ) (d : Outcome) → IsGroundList (at_level p m) (lists_of_outcomes answer) → k < length answer → IsChargeList p (get_or answer k d).charges
list_in p m answer k d g l =
    let held = g.only_listed k d.charges (subst (λ n. k < n) (sym (length-map answer (λ o. o.charges))) l) in
    list_of p m (get_or answer k d).charges (subst (λ c. IsChargeList (at_level p m) c) (get_or-map (λ o. o.charges) answer k d d.charges l) held.is_list)

pub answer_too : (p : Problem) (a b : ℤ) (answer : List Outcome) → HaveSameValidity p a b → IsAnswerAt p a answer → IsAnswerAt p b answer
answer_too p a b answer same h = record {
  ground = ground_too p a b (lists_of_outcomes answer) same h.ground;
  certain = λ k d l.
      let list = list_in p a answer k d h.ground l in
      let here = h.certain k d l in (
        λ e. certain_too p a b (lists_of_outcomes answer) (get_or answer k d).charges same list (here.0 e),
        λ x. here.1 (certain_too p b a (lists_of_outcomes answer) (get_or answer k d).charges (turned p a b same) list x),
      );
}
