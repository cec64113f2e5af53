-- runs of levels with one answer, one after the other
use Rattle.std.proofs.Common.{◌≡◌, ◌∙◌, ℕ, zero, suc, ◌<◌, List, [], ◌∷◌, length, get_or, ℤ, pos, ◌+ℤ◌, ◌-ℤ◌, ◌≤ℤ◌, refl, sym, subst, arith, unsigned_abs, Bool, false}
use Rattle.std.specs.Prelude.{All, Contains, IsTrue, ◌<ℤ◌, ◌↔◌}
use Rattle.std.proofs.lemmas.Int.{ints, by_lt_z}
use Rattle.std.proofs.lemmas.Bool.{false≢true}
use Rattle.std.proofs.lemmas.List.{length-map}
use Rattle.charge_model.specs.declared.charge.Charge.{Charge}
use Rattle.charge_model.specs.Problem.{Problem}
use Rattle.charge_model.specs.Rules.{IsChargeList}
use Rattle.level_range_laws.specs.declared.interval.Interval.{Interval}
use Rattle.level_range_laws.specs.Levels.{IsIn, IsPossibleAt, IsCertainAt, HaveSameValidity}
use Rattle.level_range_laws.specs.Answers.{Outcome, IsAnswerAt}
use Rattle.level_range_laws.proofs.Agreement.{answer_too}
use Rattle.level_candidates.specs.declared.candidate.LevelCandidate.{LevelCandidate}
use Rattle.level_candidates.specs.Candidates.{AreCandidates, lists_of_level_candidates}
use Rattle.level_range.specs.Answering.{HasSameLevels, NothingChanges}
use Rattle.level_range.proofs.Listing.{IsSetting, charges_at, measured_at, possible_in, certain_in, certain_possible}

-- the candidate in a place
found_in : (xs : List LevelCandidate) (k : ℕ) → k < length xs → (x : LevelCandidate) × (x ≡ get_or xs k x)
found_in [] k l = absurd (omega (arith, l))
found_in (x ∷ xs) zero l = (x, refl)
found_in (x ∷ xs) (suc k) l = found_in xs k (omega (arith, l))

-- a candidate with this charge list
record IsMember (xs : List LevelCandidate) (c : List Charge) : Type 0 where
  place : ℕ
  member : LevelCandidate
  within : place < length xs
  is : member ≡ get_or xs place member
  charges : member.charges ≡ c

member_of : (xs : List LevelCandidate) (c : List Charge) → Contains (lists_of_level_candidates xs) c → IsMember xs c
member_of xs c (k, lt, e) =
    let within : k < length xs = subst (λ n. k < n) (length-map xs (λ y. y.charges)) lt in
    let x = found_in xs k within in
    record { place = k; member = x.0; within = within; is = x.1; charges = sym (charges_at xs k x.0 within x.1 c) ∙ e }

possible_moves : (p : Problem) (levels : Interval) (xs : List LevelCandidate) (a b : ℤ) → AreCandidates p levels xs → IsIn levels a → IsIn levels b
    → All (λ x. IsIn x.ends.possible a → IsIn x.ends.possible b) xs → (c : List Charge) → IsChargeList p c → IsPossibleAt p a c → IsPossibleAt p b c
possible_moves p levels xs a b all at to moves c list h =
    let found = member_of xs c (all.lists.each c (record { is_list = list; level = a; inside = at; possible = h })) in
    let x = found.member in
    let measured = measured_at p levels xs found.place x all found.within found.is in
    let here = (possible_in p levels a x at measured).1 (subst (IsPossibleAt p a) (sym found.charges) h) in
    let there = subst (λ y. IsIn y.ends.possible a → IsIn y.ends.possible b) (sym found.is) (moves found.place x found.within) here in
    subst (IsPossibleAt p b) found.charges ((possible_in p levels b x to measured).0 there)

certain_moves : (p : Problem) (levels : Interval) (xs : List LevelCandidate) (a b : ℤ) → IsSetting p levels xs a → IsIn levels b
    → All (λ x. IsIn x.ends.certain a → IsIn x.ends.certain b) xs → (c : List Charge) → IsChargeList p c → IsCertainAt p a c → IsCertainAt p b c
certain_moves p levels xs a b set to moves c list h =
    let found = member_of xs c (set.all.lists.each c (record { is_list = list; level = a; inside = set.inside; possible = certain_possible p a c set.tables h })) in
    let x = found.member in
    let measured = measured_at p levels xs found.place x set.all found.within found.is in
    let here = (certain_in p levels a x set.inside measured).1 (subst (IsCertainAt p a) (sym found.charges) h) in
    let there = subst (λ y. IsIn y.ends.certain a → IsIn y.ends.certain b) (sym found.is) (moves found.place x found.within) here in
    subst (IsCertainAt p b) found.charges ((certain_in p levels b x to measured).0 there)

-- levels between which no candidate begins or ends to be valid have the same answers
pub levels_agree : (p : Problem) (levels : Interval) (xs : List LevelCandidate) (a b : ℤ) → IsSetting p levels xs a → IsIn levels b → All (λ x. HasSameLevels x a b) xs → HaveSameValidity p a b
levels_agree p levels xs a b set to same =
    let back : IsSetting p levels xs b = record { tables = set.tables; all = set.all; inside = to } in
    record {
      possible = λ c list. (
        possible_moves p levels xs a b set.all set.inside to (λ k d l. (same k d l).possible.0) c list,
        possible_moves p levels xs b a set.all to set.inside (λ k d l. (same k d l).possible.1) c list,
      );
      certain = λ c list. (
        certain_moves p levels xs a b set to (λ k d l. (same k d l).certain.0) c list,
        certain_moves p levels xs b a back set.inside (λ k d l. (same k d l).certain.1) c list,
      );
    }

pub answers_until : (p : Problem) (levels : Interval) (xs : List LevelCandidate) (a next : ℤ) (answer : List Outcome) → IsSetting p levels xs a → next ≤ℤ (levels.last +ℤ pos 1) → NothingChanges xs a next → IsAnswerAt p a answer
    → (m : ℤ) → a ≤ℤ m → m <ℤ next → IsAnswerAt p m answer
answers_until p levels xs a next answer set within same h m low high =
    let from = set.inside.from in
    let to : IsIn levels m = record { from = omega (arith, ints, from, low); to = omega (arith, ints, high, within) } in
    answer_too p a m answer (levels_agree p levels xs a m set to (same m low high)) h

-- the measure of the loop falls
pub nearer : (last level next : ℤ) → level ≤ℤ last → level <ℤ next → next ≤ℤ (last +ℤ pos 1) → unsigned_abs ((last +ℤ pos 1) -ℤ next) < unsigned_abs ((last +ℤ pos 1) -ℤ level)
nearer last level next inside later within = omega (arith, ints)

-- where the test of an order answers no, the order is the other way round
pub not_past : (r : Bool) (last level bound : ℤ) → last ≡ bound → (IsTrue r ↔ (last <ℤ level)) → r ≡ false → level ≤ℤ bound
not_past r last level bound e test fails = by_lt_z last level (λ less. absurd (false≢true (sym fails ∙ test.1 less))) (λ h. subst (λ z. level ≤ℤ z) e h)
