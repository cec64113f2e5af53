-- each level has an answer, each interval its candidates and its printed parts
use Rattle.std.proofs.Common.{◌≡◌, ◌≢◌, ℕ, zero, suc, ◌+◌, List, [], ◌∷◌, ◌++◌, length, ℤ, pos, ◌+ℤ◌, ◌-ℤ◌, ◌≤ℤ◌, ◌<ℤ◌, refl, subst, arith, unsigned_abs, ◌⊎◌, inl, inr}
use Rattle.std.proofs.lemmas.Int.{ints, by_lt_z}
use Rattle.std.proofs.lemmas.Bool.{cases_eq}
use Rattle.std.proofs.lemmas.List.Elements.{All-weaker}
use Rattle.charge_model.specs.declared.charge.Charge.{Charge}
use Rattle.charge_model.specs.Problem.{Problem, IsProblem}
use Rattle.charge_model.specs.GroundList.{IsCandidate}
use Rattle.window_laws.proofs.AtZero.{marked_same}
use Rattle.certain_energy_laws.proofs.Decisions.{Decided}
use Rattle.marked_list_laws.proofs.Lists.{collect}
use Rattle.marked_list_laws.proofs.Listed.{window_list}
use Rattle.marked_list_laws.proofs.Marks.{marked_list}
use Rattle.level_range_laws.specs.declared.interval.Interval.{Interval}
use Rattle.level_range_laws.specs.Levels.{at_level, IsCandidateIn}
use Rattle.level_range_laws.specs.Answers.{Outcome, IsAnswerAt, outcomes_of}
use Rattle.level_range_laws.specs.Candidates.{AreAllCandidates}
use Rattle.level_range_laws.specs.Parts.{Printed, ArePrinted, printed_whole, printed_split}
use Rattle.level_range_laws.specs.Building.{AreBuilt}
use Rattle.level_range_laws.proofs.LevelFacts.{list_at, list_of}
use Rattle.level_range_laws.proofs.Outcomes.{answer_of_marks}
use Rattle.level_range_laws.proofs.Building.{built_begin, built_same, built_more, built_whole, built_split}
use Rattle.level_range_laws.proofs.AtLevels.{decided_by, candidate_decided, laws_at}
use Rattle.level_range_laws.proofs.Decided.{answers_decided, IsAmong, among_decided}

-- the marked ground list at a level tells the answer
pub answer_exists : (p : Problem) (m : ℤ) → IsProblem p → (answer : List Outcome) × IsAnswerAt p m answer
answer_exists p m is =
    let laws = laws_at p m is in
    let list = window_list (at_level p m) (pos 0) laws (omega (arith, ints)) in
    let marked = marked_list (at_level p m) (pos 0) list.0 laws list.1 in
    (outcomes_of marked.0, answer_of_marks p m marked.0 ((marked_same (at_level p m) marked.0).0 marked.1))

-- whether a list is possibly valid at some level of an interval is decided, level by level
in_decided : (p : Problem) (levels : Interval) (c : List Charge) → IsProblem p → Decided (IsCandidateIn p levels c)
in_decided p levels c is = by_lt_z levels.last levels.first
    (λ none. inr (λ h. let from = h.inside.from in let to = h.inside.to in omega (arith, ints, none, from, to)))
    (λ some. decided_by (IsAmong levels.first count Has) (IsCandidateIn p levels c) (to some) (back some) (among_decided levels.first count Has (λ m. candidate_decided p m c is)))
  where
    count : ℕ
    count = unsigned_abs ((levels.last +ℤ pos 1) -ℤ levels.first)

    Has : ℤ → Type 0
    Has m = IsCandidate (at_level p m) c

    to : levels.first ≤ℤ levels.last → IsAmong levels.first count Has → IsCandidateIn p levels c
    to some h =
        let from = h.from in
        let end = h.to in
        record { is_list = list_of p h.level c h.holds.is_list; level = h.level; inside = record { from = from; to = omega (arith, ints, some, end) }; possible = h.holds.possible }

    back : levels.first ≤ℤ levels.last → IsCandidateIn p levels c → IsAmong levels.first count Has
    back some h =
        let end = h.inside.to in
        record { level = h.level; from = h.inside.from; to = omega (arith, ints, some, end); holds = record { is_list = list_at p h.level c h.is_list; possible = h.possible } }

pub candidates_exist : (p : Problem) (levels : Interval) → IsProblem p → (all : List (List Charge)) × AreAllCandidates p levels all
candidates_exist p levels is = let found = collect p.sites (IsCandidateIn p levels) (λ c. in_decided p levels c is) in (
  found.0,
  record {
    in_order = found.1.in_order;
    only = All-weaker (λ c. (length c ≡ p.sites) × IsCandidateIn p levels c) (IsCandidateIn p levels) (λ c h. h.1) found.0 found.1.only;
    each = λ c h. found.1.each c h.is_list.whole h;
  },
)

-- some printed parts
abbrev HasParts : Problem → Interval → Type 0
HasParts p levels = (parts : List Printed) × ArePrinted p levels parts

-- parts in the making can be made whole, with n more levels to come
abbrev CanGrow : ℕ → Problem → Interval → Type 0
CanGrow n p levels = (done : List Printed) (first : ℤ) (answer : List Outcome) (level : ℤ)
    → AreBuilt p levels done first answer level → level +ℤ pos n ≡ levels.last +ℤ pos 1 → HasParts p levels

-- one more level: the run goes on, or it ends as a part, or all that is left is one split part
one_more_level : (n : ℕ) (p : Problem) (levels : Interval) → CanGrow n p levels → (done : List Printed) (first : ℤ) (answer : List Outcome) (level : ℤ) (more : List Outcome)
    → AreBuilt p levels done first answer level → level +ℤ pos (suc n) ≡ levels.last +ℤ pos 1 → IsAnswerAt p level more → HasParts p levels
one_more_level n p levels again done first answer level more built left here = step (answers_decided answer more)
  where
    only : (m : ℤ) → level ≤ℤ m → m <ℤ (level +ℤ pos 1) → IsAnswerAt p m more
    only m low high = subst (λ z. IsAnswerAt p z more) (omega (arith, ints, low, high)) here

    inside : level ≤ℤ levels.last
    inside = omega (arith, ints, left)

    later : level <ℤ (level +ℤ pos 1)
    later = omega (arith, ints)

    within : (level +ℤ pos 1) ≤ℤ (levels.last +ℤ pos 1)
    within = omega (arith, ints, left)

    rest : (level +ℤ pos 1) +ℤ pos n ≡ levels.last +ℤ pos 1
    rest = omega (arith, ints, left)

    differ_then : (answer ≡ more → ⊥) → (length done + 1 ≡ 256) ⊎ (length done + 1 ≢ 256) → HasParts p levels
    differ_then differ (inl full) =
        (done ++ printed_split first levels.last ∷ [], built_split p levels done (done ++ printed_split first levels.last ∷ []) first level levels.last answer more built refl inside here differ full refl)
    differ_then differ (inr room) =
        again (done ++ printed_whole first (level -ℤ pos 1) answer ∷ []) level more (level +ℤ pos 1)
        (built_more p levels done (done ++ printed_whole first (level -ℤ pos 1) answer ∷ []) first level (level -ℤ pos 1) (level +ℤ pos 1) answer more built inside refl differ room refl later within only) rest

    step : Decided (answer ≡ more) → HasParts p levels
    step (inl same) = again done first answer (level +ℤ pos 1) (built_same p levels done first level (level +ℤ pos 1) answer more built same later within only) rest
    step (inr differ) = differ_then differ (cases_eq (length done + 1) 256)

grown : (n : ℕ) (p : Problem) (levels : Interval) → IsProblem p → CanGrow n p levels
grown zero p levels is done first answer level built left =
    (done ++ printed_whole first levels.last answer ∷ [], built_whole p levels done (done ++ printed_whole first levels.last answer ∷ []) first level levels.last answer built refl (omega (arith, ints, left)) refl)
grown (suc n) p levels is done first answer level built left =
    let more = answer_exists p level is in
    one_more_level n p levels (grown n p levels is) done first answer level more.0 built left more.1

pub parts_exist : (p : Problem) (levels : Interval) → IsProblem p → levels.first ≤ℤ levels.last → (parts : List Printed) × ArePrinted p levels parts
parts_exist p levels is some = by (answer_exists p levels.first is)
  where
    by : (answer : List Outcome) × IsAnswerAt p levels.first answer → (parts : List Printed) × ArePrinted p levels parts
    by (answer, here) =
        let next = levels.first +ℤ pos 1 in
        let only : (m : ℤ) → levels.first ≤ℤ m → m <ℤ next → IsAnswerAt p m answer = λ m low high. subst (λ z. IsAnswerAt p z answer) (omega (arith, ints, low, high)) here in
        grown (unsigned_abs (levels.last -ℤ levels.first)) p levels is [] levels.first answer next
        (built_begin p levels levels.first next answer refl (omega (arith, ints)) (omega (arith, ints, some)) only) (omega (arith, ints, some))
