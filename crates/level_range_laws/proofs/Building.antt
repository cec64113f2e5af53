-- parts in the making: a run begins, goes on, ends as a part, or as a split one
use Rattle.std.proofs.Common.{◌≡◌, ◌∙◌, ◌+◌, List, [], ◌∷◌, ◌++◌, length, take, ℤ, pos, ◌+ℤ◌, ◌-ℤ◌, ◌≤ℤ◌, refl, sym, ap, subst, arith}
use Rattle.std.specs.Prelude.{All, IsSome, ◌<ℤ◌}
use Rattle.std.proofs.lemmas.Int.{ints, by_lt_z}
use Rattle.std.proofs.lemmas.List.{length-append, take-append-le, take_all}
use Rattle.std.proofs.lemmas.List.Elements.{All-nil, All-push, All-take}
use Rattle.charge_model.specs.Problem.{Problem}
use Rattle.level_range_laws.specs.declared.interval.Interval.{Interval}
use Rattle.level_range_laws.specs.Answers.{Outcome, IsAnswerAt}
use Rattle.level_range_laws.specs.Parts.{Printed, IsPart, HasChange, IsPrintedPart, Follow, ArePrinted, printed_whole, printed_split}
use Rattle.level_range_laws.specs.Building.{AreBuilt}
use Rattle.level_range_laws.proofs.OneAnswer.{one_answer}

follow_push : (first mid last : ℤ) (xs : List Printed) (x : Printed) → Follow first mid xs → x.first ≡ mid +ℤ pos 1 → x.first ≤ℤ x.last → x.last ≡ last → Follow first last (xs ++ x ∷ [])
follow_push first mid last [] x h begins some ends = (begins ∙ sym h, some, ap (λ z. z +ℤ pos 1) ends)
follow_push first mid last (y ∷ ys) x h begins some ends = (h.0, h.1, follow_push (y.last +ℤ pos 1) mid last ys x h.2 begins some ends)

pub built_begin : (p : Problem) (levels : Interval) (first next : ℤ) (answer : List Outcome) → first ≡ levels.first → first <ℤ next → next ≤ℤ (levels.last +ℤ pos 1)
    → ((m : ℤ) → first ≤ℤ m → m <ℤ next → IsAnswerAt p m answer) → AreBuilt p levels [] first answer next
built_begin p levels first next answer e later within same = record {
  follow = omega (arith, ints, e);
  each = All-nil _;
  whole = All-nil _;
  few = omega arith;
  from = omega (arith, ints, e);
  some = later;
  to = within;
  same = same;
  before = λ h. absurd (omega (arith, ints, h, e));
}

join : (p : Problem) (first level next : ℤ) (answer : List Outcome) → ((m : ℤ) → first ≤ℤ m → m <ℤ level → IsAnswerAt p m answer) → ((m : ℤ) → level ≤ℤ m → m <ℤ next → IsAnswerAt p m answer)
    → (m : ℤ) → first ≤ℤ m → m <ℤ next → IsAnswerAt p m answer
join p first level next answer low high m a b = by_lt_z m level (λ h. low m a h) (λ h. high m h b)

-- the same answer goes on
pub built_same : (p : Problem) (levels : Interval) (done : List Printed) (first level next : ℤ) (answer more : List Outcome) → AreBuilt p levels done first answer level → answer ≡ more → level <ℤ next → next ≤ℤ (levels.last +ℤ pos 1)
    → ((m : ℤ) → level ≤ℤ m → m <ℤ next → IsAnswerAt p m more) → AreBuilt p levels done first answer next
built_same p levels done first level next answer more h e later within same =
    let some = h.some in
    record {
      follow = h.follow;
      each = h.each;
      whole = h.whole;
      few = h.few;
      from = h.from;
      some = omega (arith, ints, some, later);
      to = within;
      same = join p first level next answer h.same (λ m a b. subst (IsAnswerAt p m) (sym e) (same m a b));
      before = h.before;
    }

-- the run that has begun is a part, where the next level has another answer
ended_part : (p : Problem) (levels : Interval) (done : List Printed) (first level last : ℤ) (answer : List Outcome) → AreBuilt p levels done first answer level → last ≡ level -ℤ pos 1
    → (last <ℤ levels.last → IsAnswerAt p level answer → ⊥) → IsPart p levels (record { first = first; last = last; answer = answer })
ended_part p levels done first level last answer h e other =
    let some = h.some in
    let to = h.to in
    let next : last +ℤ pos 1 ≡ level = omega (arith, ints, e) in
    record {
      from = h.from;
      some = omega (arith, ints, some, e);
      to = omega (arith, ints, to, e);
      same = λ m a b. h.same m a (omega (arith, ints, b, e));
      before = h.before;
      after = λ less here. other less (subst (λ z. IsAnswerAt p z answer) next here);
    }

pub built_more : (p : Problem) (levels : Interval) (done now : List Printed) (first level last next : ℤ) (answer more : List Outcome) → AreBuilt p levels done first answer level → level ≤ℤ levels.last → last ≡ level -ℤ pos 1
    → (answer ≡ more → ⊥) → (length done + 1 ≡ 256 → ⊥) → now ≡ done ++ printed_whole first last answer ∷ [] → level <ℤ next → next ≤ℤ (levels.last +ℤ pos 1)
    → ((m : ℤ) → level ≤ℤ m → m <ℤ next → IsAnswerAt p m more) → AreBuilt p levels now level more next
built_more p levels done now first level last next answer more h inside e differ room is later within same =
    let from = h.from in
    let some = h.some in
    let few = h.few in
    let here = same level (omega (arith, ints)) later in
    let part = ended_part p levels done first level last answer h e (λ less old. differ (one_answer p level answer more old here)) in
    let x = printed_whole first last answer in
    subst (λ l. AreBuilt p levels l level more next) (sym is) (record {
      follow = follow_push levels.first (first -ℤ pos 1) (level -ℤ pos 1) done x h.follow (omega (arith, ints)) part.some e;
      each = All-push (λ x. IsPrintedPart p levels x.first x.last x.answer) done x h.each part;
      whole = All-push (λ x. IsSome x.answer) done x h.whole refl;
      few = omega (arith, few, room, length-append done (x ∷ []));
      from = omega (arith, ints, from, some);
      some = later;
      to = within;
      same = same;
      before = λ less old. differ (one_answer p (level -ℤ pos 1) answer more (h.same (level -ℤ pos 1) (omega (arith, ints, some)) (omega (arith, ints))) old);
    })

pub built_whole : (p : Problem) (levels : Interval) (done now : List Printed) (first level last : ℤ) (answer : List Outcome) → AreBuilt p levels done first answer level → last ≡ levels.last → last <ℤ level
    → now ≡ done ++ printed_whole first last answer ∷ [] → ArePrinted p levels now
built_whole p levels done now first level last answer h e end is =
    let to = h.to in
    let few = h.few in
    let part = ended_part p levels done first level last answer h (omega (arith, ints, e, end, to)) (λ less old. absurd (omega (arith, ints, less, e))) in
    let x = printed_whole first last answer in
    subst (ArePrinted p levels) (sym is) (record {
      follow = follow_push levels.first (first -ℤ pos 1) levels.last done x h.follow (omega (arith, ints)) part.some e;
      each = All-push (λ x. IsPrintedPart p levels x.first x.last x.answer) done x h.each part;
      few = omega (arith, few, length-append done (x ∷ []));
      whole = All-take (λ x. IsSome x.answer) 255 (done ++ x ∷ []) (All-push (λ x. IsSome x.answer) done x h.whole refl);
    })

pub built_split : (p : Problem) (levels : Interval) (done now : List Printed) (first level last : ℤ) (answer more : List Outcome) → AreBuilt p levels done first answer level → last ≡ levels.last → level ≤ℤ levels.last
    → IsAnswerAt p level more → (answer ≡ more → ⊥) → length done + 1 ≡ 256 → now ≡ done ++ printed_split first last ∷ [] → ArePrinted p levels now
built_split p levels done now first level last answer more h e inside here differ full is =
    let some = h.some in
    let x = printed_split first last in
    let change : HasChange p first last = record {
      level = level;
      above = some;
      below = omega (arith, ints, inside, e);
      answer = answer;
      before = h.same (level -ℤ pos 1) (omega (arith, ints, some)) (omega (arith, ints));
      after = λ old. differ (one_answer p level answer more old here);
    } in
    let front : take 255 (done ++ x ∷ []) ≡ done = take-append-le 255 done (x ∷ []) (omega (arith, full)) ∙ take_all 255 done (omega (arith, full)) in
    subst (ArePrinted p levels) (sym is) (record {
      follow = follow_push levels.first (first -ℤ pos 1) levels.last done x h.follow (omega (arith, ints)) (omega (arith, ints, some, inside, e)) e;
      each = All-push (λ x. IsPrintedPart p levels x.first x.last x.answer) done x h.each change;
      few = omega (arith, full, length-append done (x ∷ []));
      whole = subst (All (λ x. IsSome x.answer)) (sym front) h.whole;
    })
