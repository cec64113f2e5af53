-- what an answered text tells
use Rattle.std.proofs.Common.{◌≡◌, inl, inr, ℕ, ◌≤◌, ℤ, pos, ◌≤ℤ◌, ◌<ℤ◌, List, unsigned_abs, arith}
use Rattle.std.proofs.lemmas.Int.{ints}
use Rattle.std.specs.Prelude.{All, Contains}
use Rattle.charge_model.specs.declared.charge.Charge.{Charge}
use Rattle.charge_model.specs.declared.mark.Deciding.{Deciding}
use Rattle.charge_model.specs.declared.mark.Mark.TheVariants.{Certain, Unresolved}
use Rattle.charge_model.specs.Problem.{Problem, UnderEveryTable, UnderSomeTable}
use Rattle.charge_model.specs.GroundList.{Entry, lists_of, comparison_of}
use Rattle.window_model.specs.Windows.{IsMarkedWindowList, IsNearGround, ListsEachNear, slack_within}
use Rattle.command_words.specs.declared.settings.Settings.{Settings}
use Rattle.ground_report.specs.declared.about.About.{About}
use Rattle.run_answer.specs.declared.status.Status.TheVariants.{Answered}
use Rattle.occupation.specs.declared.share.Share.{Share}
use Rattle.occupation.specs.Shares.{AreRoundedShares, EncloseShares, IsPartOfWhole}
use Rattle.task_levels.specs.OccupationAnswer.{IsOccupationAnswer, IsOccupationReport}
use Rattle.task_levels.specs.WindowAnswer.{IsWindowListAnswer, IsWindowReport}
use Rattle.task_levels.specs.Told.{TellsNearLists, TellsShares}

-- the laws of the window list
pub record ListLaws : Type 0 where
  pub listed : (p : Problem) (window : ℤ) (es : List Entry) → IsMarkedWindowList p window es → ListsEachNear p window (lists_of es)
  pub certain : (p : Problem) (window : ℤ) (es : List Entry) (e : Entry) → pos 0 ≤ℤ window → IsMarkedWindowList p window es
      → Contains es e → e.mark ≡ Certain → UnderEveryTable p (λ t. IsNearGround p window t e.charges)
  pub unresolved : (p : Problem) (window : ℤ) (es : List Entry) (e : Entry) (d : Deciding) → IsMarkedWindowList p window es
      → Contains es e → e.mark ≡ Unresolved d
      → UnderSomeTable p (λ t. slack_within p window (lists_of es) e.charges (comparison_of d) t <ℤ pos 0)

-- an answer that is given is a text
report_in : (s : Settings) (about : About) (p : Problem) (text : List ℕ) → IsWindowListAnswer s about p Answered text → IsWindowReport s about p text
report_in s about p text (inl is) = is.1
report_in s about p text (inr (inl over)) = let wrong = over.1.0 in absurd (cc)
report_in s about p text (inr (inr long)) = let wrong = long.1.0 in absurd (cc)

pub tells : ListLaws → (s : Settings) (about : About) (p : Problem) (text : List ℕ) → IsWindowListAnswer s about p Answered text → TellsNearLists s about p text
tells laws s about p text is =
    let report = report_in s about p text is in
    let list = report.list.list in
    record {
      entries = report.entries;
      prints = report.prints;
      each_listed = laws.listed p s.levels.window.width report.entries list;
      certain = λ e held marked. laws.certain p s.levels.window.width report.entries e s.levels.window.is_window.least list held marked;
      unresolved = λ e d held marked. laws.unresolved p s.levels.window.width report.entries e d list held marked;
    }

-- the laws of shares
pub record ShareLaws : Type 0 where
  pub listed : (p : Problem) (window : ℤ) (es : List Entry) → IsMarkedWindowList p window es → ListsEachNear p window (lists_of es)
  pub encloses : (p : Problem) (kt : ℕ) (l : List (List Charge)) (shares : List Share) → 1 ≤ kt → AreRoundedShares p kt l shares → EncloseShares p kt l shares
  pub parts : (p : Problem) (kt : ℕ) (l : List (List Charge)) (shares : List Share) → 1 ≤ kt → AreRoundedShares p kt l shares → All IsPartOfWhole shares

shares_in : (s : Settings) (p : Problem) (text : List ℕ) → IsOccupationAnswer s p Answered text → IsOccupationReport s p text
shares_in s p text (inl is) = is.1
shares_in s p text (inr (inl over)) = let wrong = over.1.0 in absurd (cc)
shares_in s p text (inr (inr long)) = let wrong = long.1.0 in absurd (cc)

from_one : (kt : ℤ) → pos 1000000000 ≤ℤ kt → 1 ≤ unsigned_abs kt
from_one kt least = omega (arith, ints, least)

pub tells_shares : ShareLaws → (s : Settings) (p : Problem) (text : List ℕ) → IsOccupationAnswer s p Answered text → TellsShares s p text
tells_shares laws s p text is =
    let report = shares_in s p text is in
    let kt = from_one s.levels.kt s.levels.kt_in_range.from in
    record {
      entries = report.entries;
      shares = report.shares;
      prints = report.prints;
      each_listed = laws.listed p s.levels.window.width report.entries report.list.list;
      encloses = laws.encloses p (unsigned_abs s.levels.kt) (lists_of report.entries) report.shares kt report.by_rule;
      parts = laws.parts p (unsigned_abs s.levels.kt) (lists_of report.entries) report.shares kt report.by_rule;
    }
