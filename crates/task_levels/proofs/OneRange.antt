-- a problem has one answer at the levels of a range
use Rattle.std.proofs.Common.{◌≡◌, ◌∙◌, inl, inr, sym, ap, subst, ℕ, List, length, arith, Some}
use Rattle.charge_model.specs.declared.charge.Charge.{Charge}
use Rattle.charge_model.specs.Problem.{Problem}
use Rattle.command_words.specs.declared.settings.DepthRange.{DepthRange}
use Rattle.command_words.specs.declared.settings.Settings.{Settings}
use Rattle.level_range_laws.specs.declared.interval.Interval.{Interval}
use Rattle.level_range_laws.specs.Candidates.{AreAllCandidates}
use Rattle.level_range_laws.specs.Parts.{Printed, ArePrinted}
use Rattle.level_candidates.specs.Answer.{HasManyCandidates}
use Rattle.level_range.specs.Answer.{HasFewCandidates}
use Rattle.range_report.specs.RangeText.{range_text}
use Rattle.run_answer.specs.declared.status.Status.{Status}
use Rattle.task_levels.specs.RangeAnswer.{IsRangeReport, IsRangeUnlisted, IsAnswerWithin, IsRangeAnswer, levels_between}

-- each interval has one list of candidates, and one of printed parts
pub record RangesAreOne : Type 0 where
  pub candidates : (p : Problem) (levels : Interval) (a b : List (List Charge)) → AreAllCandidates p levels a → AreAllCandidates p levels b → a ≡ b
  pub parts : (p : Problem) (levels : Interval) (a b : List Printed) → ArePrinted p levels a → ArePrinted p levels b → a ≡ b

module _ (one : RangesAreOne) (p : Problem) (levels : Interval) (limit : ℕ) where
  few_or_many : HasFewCandidates p levels → HasManyCandidates p levels → ⊥
  few_or_many few many =
      let small = few.few in
      let big = many.many in
      let same = ap length (one.candidates p levels few.all many.all few.whole many.whole) in
      omega (arith, small, big, same)

  same_report : (t u : List ℕ) → IsRangeReport p levels limit t → IsRangeReport p levels limit u → t ≡ u
  same_report t u a b = a.prints ∙ ap (range_text p.sites) (one.parts p levels a.parts b.parts a.list.printed b.list.printed) ∙ sym b.prints

  same_unlisted : (s r : Status) (t u : List ℕ) → IsRangeUnlisted p levels limit s t → IsRangeUnlisted p levels limit r u → (s ≡ r) × (t ≡ u)
  same_unlisted s r t u (inl (over, a)) (inl (more, b)) = (a.0 ∙ sym b.0, a.1 ∙ sym b.1)
  same_unlisted s r t u (inl (over, a)) (inr (within, many, b)) = absurd (omega (arith, over, within))
  same_unlisted s r t u (inr (within, many, a)) (inl (over, b)) = absurd (omega (arith, over, within))
  same_unlisted s r t u (inr (within, many, a)) (inr (less, more, b)) = (a.0 ∙ sym b.0, a.1 ∙ sym b.1)

  -- a problem with a text has no other answer
  not_unlisted : (s : Status) (t u : List ℕ) → IsRangeReport p levels limit t → IsRangeUnlisted p levels limit s u → ⊥
  not_unlisted s t u report (inl (over, a)) = let within = report.list.within in omega (arith, over, within)
  not_unlisted s t u report (inr (within, many, a)) = few_or_many report.list.few many

  pub same_within : (s r : Status) (t u : List ℕ) → IsAnswerWithin p levels limit s t → IsAnswerWithin p levels limit r u → (s ≡ r) × (t ≡ u)
  same_within s r t u (inl a) (inl b) = (a.0 ∙ sym b.0, same_report t u a.1 b.1)
  same_within s r t u (inl a) (inr b) = absurd (not_unlisted r t u a.1 b)
  same_within s r t u (inr a) (inl b) = absurd (not_unlisted s u t b.1 a)
  same_within s r t u (inr a) (inr b) = same_unlisted s r t u a b

same_range : (a b : DepthRange) → Some a ≡ Some b → a ≡ b
same_range a b e = cc

pub same_range_answer : RangesAreOne → (settings : Settings) (p : Problem) (s r : Status) (t u : List ℕ) → IsRangeAnswer settings p s t → IsRangeAnswer settings p r u → (s ≡ r) × (t ≡ u)
same_range_answer one settings p s r t u a b =
    let range = same_range a.range b.range (sym a.asked ∙ b.asked) in
    same_within one p (levels_between b.range) settings.search.limit s r t u
    (subst (λ (x : DepthRange). IsAnswerWithin p (levels_between x) settings.search.limit s t) range a.answer) b.answer
