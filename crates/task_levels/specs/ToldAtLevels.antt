-- what the text of a range of levels tells, at each level
use Rattle.std.specs.Prelude.{◌≡◌, ℕ, ◌<◌, ℤ, IsTrue, Some, List, length, Contains}
use Rattle.charge_model.specs.declared.charge.Charge.{Charge}
use Rattle.charge_model.specs.Problem.{Problem, UnderEveryTable}
use Rattle.charge_model.specs.Rules.{IsGroundState}
use Rattle.command_words.specs.declared.settings.DepthRange.{DepthRange}
use Rattle.command_words.specs.declared.settings.Settings.{Settings}
use Rattle.level_range_laws.specs.Levels.{at_level, IsIn}
use Rattle.level_range_laws.specs.Answers.{Outcome, IsAnswerAt, lists_of_outcomes}
use Rattle.level_range_laws.specs.Parts.{Printed, HasLevel, IsInOne, printed_at}
use Rattle.range_report.specs.RangeText.{range_text}
use Rattle.task_levels.specs.RangeAnswer.{levels_between}

-- at a level these entries are the ground list, and those that are certain there; so under every
-- potential table each ground state is an entry, and a certain entry is a ground state
pub record HoldsAtLevel (p : Problem) (level : ℤ) (answer : List Outcome) : Type 0 where
  pub exact : IsAnswerAt p level answer
  pub each_listed : UnderEveryTable p (λ t. (c : List Charge)
      → IsGroundState (at_level p level) t c → Contains (lists_of_outcomes answer) c)
  pub certain : (o : Outcome) → Contains answer o → IsTrue o.certain
      → UnderEveryTable p (λ t. IsGroundState (at_level p level) t o.charges)

-- each part that is not split says what holds at each of its levels
abbrev pub PartsTell : Problem → List Printed → Type 0
PartsTell p parts = (k : ℕ) → k < length parts → (answer : List Outcome)
    → (printed_at parts k).answer ≡ Some answer → (level : ℤ) → HasLevel (printed_at parts k) level
    → HoldsAtLevel p level answer

-- the text is that of parts of which this holds: each level of the range lies in exactly one part,
-- and a part that is not split has what holds at each of its levels
pub record TellsAtLevels (s : Settings) (p : Problem) (text : List ℕ) : Type 0 where
  pub range : DepthRange
  pub asked : s.levels.range ≡ Some range
  pub parts : List Printed
  pub prints : text ≡ range_text p.sites parts
  pub each_in_one : (level : ℤ) → IsIn (levels_between range) level → IsInOne parts level
  pub told : PartsTell p parts
