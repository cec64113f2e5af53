-- the answer at a level, out of the marked ground list there, and what it promises
use Rattle.std.proofs.Common.{◌≡◌, List, [], ◌∷◌, get_or, ℤ, pos, ◌≤ℤ◌, ◌<ℤ◌, refl, sym, ap, subst, ◌∙◌, arith}
use Rattle.std.specs.Prelude.{All, Contains, ◌↔◌, IsTrue}
use Rattle.std.proofs.lemmas.Int.{ints}
use Rattle.std.proofs.lemmas.Bool.{false≢true}
use Rattle.std.proofs.lemmas.List.{get_or-map, length-map}
use Rattle.std.proofs.lemmas.List.Elements.{All-get_or, All-map, All-contains}
use Rattle.charge_model.specs.declared.charge.Charge.{Charge}
use Rattle.charge_model.specs.declared.mark.Mark.{Mark}
use Rattle.charge_model.specs.declared.mark.Mark.TheVariants.{Certain, Unresolved}
use Rattle.charge_model.specs.Problem.{Problem, UnderEveryTable, UnderSomeTable}
use Rattle.charge_model.specs.Rules.{energy, slack, IsGroundState}
use Rattle.charge_model.specs.GroundList.{Comparison, own, rival, IsComparisonOf, comparison_slack, comparison_of, IsCertain, IsMark, IsGroundList, Entry, IsMarkedGroundList, lists_of as charges_of, is_certain}
use Rattle.ground_list_laws.proofs.AtZero.{lists_each_least, certain_is_least}
use Rattle.level_range_laws.specs.Levels.{at_level}
use Rattle.level_range_laws.specs.Answers.{Outcome, lists_of_outcomes, IsAnswerAt, outcomes_of}
use Rattle.level_range_laws.proofs.LevelFacts.{table_at}

not_both : (x : ℤ) → x <ℤ pos 0 → pos 0 ≤ℤ x → ⊥
not_both x less more = omega (arith, ints)

-- a certain list has no comparison that fails
none_fails : (p : Problem) (l : List (List Charge)) (c : List Charge) (e : Comparison) → IsCertain p l c → IsComparisonOf p l c e
    → UnderSomeTable p (λ t. comparison_slack p l c e t <ℤ pos 0) → ⊥
none_fails p l c (own q) certain of (t, is, less) = not_both (slack p c q t) less (certain.valid q of t is)
none_fails p l c (rival j) certain of (t, is, less) =
    let least = All-get_or (λ e. UnderEveryTable p (λ t. energy p t c ≤ℤ energy p t e)) l j [] of certain.least t is in
    omega (arith, ints, less, least)

mark_tells : (p : Problem) (l : List (List Charge)) (c : List Charge) (m : Mark) → IsMark p l c m → IsTrue (is_certain m) ↔ IsCertain p l c
mark_tells p l c Certain is = (λ e. is, λ h. refl)
mark_tells p l c (Unresolved d) is = (λ e. absurd (false≢true e), λ h. absurd (none_fails p l c (comparison_of d) h is.of_list is.fails))

same_lists : (es : List Entry) → lists_of_outcomes (outcomes_of es) ≡ charges_of es
same_lists [] = refl
same_lists (e ∷ es) = ap (λ l. e.charges ∷ l) (same_lists es)

marks_tell : (p : Problem) (l : List (List Charge)) (es : List Entry) → All (λ e. IsMark p l e.charges e.mark) es → All (λ o. IsTrue o.certain ↔ IsCertain p l o.charges) (outcomes_of es)
marks_tell p l es marks = All-map (λ o. IsTrue o.certain ↔ IsCertain p l o.charges) (λ e. record { charges = e.charges; certain = is_certain e.mark }) es
    (λ k d h. mark_tells p l (get_or es k d).charges (get_or es k d).mark (marks k d h))

pub answer_of_marks : (p : Problem) (m : ℤ) (es : List Entry) → IsMarkedGroundList (at_level p m) es → IsAnswerAt p m (outcomes_of es)
answer_of_marks p m es h = record {
  ground = subst (IsGroundList (at_level p m)) (sym (same_lists es)) h.ground;
  certain = marks_tell_at (lists_of_outcomes (outcomes_of es)) (same_lists es);
}
  where
    marks_tell_at : (l : List (List Charge)) → l ≡ charges_of es → All (λ o. IsTrue o.certain ↔ IsCertain (at_level p m) l o.charges) (outcomes_of es)
    marks_tell_at l e = subst (λ l. All (λ o. IsTrue o.certain ↔ IsCertain (at_level p m) l o.charges) (outcomes_of es)) (sym e) (marks_tell (at_level p m) (charges_of es) es h.marks)

-- under every table each ground state at a level is in the answer
pub answer_lists_each : (p : Problem) (m : ℤ) (answer : List Outcome) → IsAnswerAt p m answer
    → UnderEveryTable p (λ t. (c : List Charge) → IsGroundState (at_level p m) t c → Contains (lists_of_outcomes answer) c)
answer_lists_each p m answer h t is = lists_each_least (at_level p m) (lists_of_outcomes answer) h.ground t (table_at p m t is)

contains_list : (answer : List Outcome) (o : Outcome) → Contains answer o → Contains (lists_of_outcomes answer) o.charges
contains_list answer o (k, lt, is) = (k, rw length-map lt, get_or-map (λ d. d.charges) answer k o o.charges lt ∙ ap (λ d. d.charges) is)

-- under every table a certain entry is a ground state
pub certain_entry_is_ground : (p : Problem) (m : ℤ) (answer : List Outcome) (o : Outcome) → IsAnswerAt p m answer → Contains answer o → IsTrue o.certain
    → UnderEveryTable p (λ t. IsGroundState (at_level p m) t o.charges)
certain_entry_is_ground p m answer o h held certain t is =
    let mark = All-contains (λ d. IsTrue d.certain ↔ IsCertain (at_level p m) (lists_of_outcomes answer) d.charges) answer o h.certain held in
    certain_is_least (at_level p m) (lists_of_outcomes answer) o.charges h.ground (contains_list answer o held) (mark.0 certain) t (table_at p m t is)
