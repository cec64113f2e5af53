-- what an answered text tells at each level
use Rattle.std.proofs.Common.{◌≡◌, inl, inr, ℕ, ℤ, ◌≤ℤ◌, List, subst, Some, None, Option, pos}
use Rattle.std.specs.Prelude.{Contains, IsTrue}
use Rattle.charge_model.specs.declared.charge.Charge.{Charge}
use Rattle.charge_model.specs.Problem.{Problem, UnderEveryTable}
use Rattle.charge_model.specs.Rules.{IsGroundState}
use Rattle.command_words.specs.declared.settings.Settings.{Settings}
use Rattle.level_range_laws.specs.declared.interval.Interval.{Interval}
use Rattle.level_range_laws.specs.Levels.{at_level, IsIn}
use Rattle.level_range_laws.specs.Answers.{Outcome, IsAnswerAt, lists_of_outcomes}
use Rattle.level_range_laws.specs.Parts.{Printed, ArePrinted, IsPrintedPart, IsInOne, printed_at, printed_split}
use Rattle.run_answer.specs.declared.status.Status.TheVariants.{Answered}
use Rattle.task_levels.specs.RangeAnswer.{IsRangeReport, IsAnswerWithin, IsRangeAnswer, levels_between}
use Rattle.task_levels.specs.ToldAtLevels.{PartsTell, TellsAtLevels}

-- the laws of parts and of answers
pub record PartLaws : Type 0 where
  pub in_one : (p : Problem) (levels : Interval) (parts : List Printed) (level : ℤ) → ArePrinted p levels parts → IsIn levels level → IsInOne parts level
  pub listed : (p : Problem) (level : ℤ) (answer : List Outcome) → IsAnswerAt p level answer → UnderEveryTable p (λ t. (c : List Charge) → IsGroundState (at_level p level) t c → Contains (lists_of_outcomes answer) c)
  pub certain : (p : Problem) (level : ℤ) (answer : List Outcome) (o : Outcome) → IsAnswerAt p level answer → Contains answer o → IsTrue o.certain → UnderEveryTable p (λ t. IsGroundState (at_level p level) t o.charges)

-- an answer that is given is a text
report_in : (p : Problem) (levels : Interval) (limit : ℕ) (text : List ℕ) → IsAnswerWithin p levels limit Answered text → IsRangeReport p levels limit text
report_in p levels limit text (inl is) = is.1
report_in p levels limit text (inr (inl over)) = let wrong = over.1.0 in absurd (cc)
report_in p levels limit text (inr (inr long)) = let wrong = long.2.0 in absurd (cc)

-- a part with an answer has it at each of its levels
answer_in : (p : Problem) (levels : Interval) (first last : ℤ) (shown : Option (List Outcome)) (answer : List Outcome) → IsPrintedPart p levels first last shown → shown ≡ Some answer
    → (m : ℤ) → first ≤ℤ m → m ≤ℤ last → IsAnswerAt p m answer
answer_in p levels first last (Some own) answer part is m from to = subst (IsAnswerAt p m) (same own answer is) (part.same m from to)
  where
    same : (a b : List Outcome) → Some a ≡ Some b → a ≡ b
    same a b e = cc
answer_in p levels first last None answer part is m from to = absurd (cc)

parts_tell : PartLaws → (p : Problem) (levels : Interval) (parts : List Printed) → ArePrinted p levels parts → PartsTell p parts
parts_tell laws p levels parts printed k lt answer shown level has =
    let x = printed_at parts k in
    let part = printed.each k (printed_split (pos 0) (pos 0)) lt in
    let exact = answer_in p levels x.first x.last x.answer answer part shown level has.from has.to in
    record {
      exact = exact;
      each_listed = laws.listed p level answer exact;
      certain = λ o held certain. laws.certain p level answer o exact held certain;
    }

pub tells_at_levels : PartLaws → (s : Settings) (p : Problem) (text : List ℕ) → IsRangeAnswer s p Answered text → TellsAtLevels s p text
tells_at_levels laws s p text is =
    let levels = levels_between is.range in
    let report = report_in p levels s.search.limit text is.answer in
    record {
      range = is.range;
      asked = is.asked;
      parts = report.parts;
      prints = report.prints;
      each_in_one = λ level inside. laws.in_one p levels report.parts level report.list.printed inside;
      told = parts_tell laws p levels report.parts report.list.printed;
    }
