-- what is answered of an interval of levels
use Rattle.std.specs.Prelude.{ℕ, ◌<◌, ◌≤◌, ℤ, List, length}
use Rattle.charge_model.specs.declared.charge.Charge.{Charge}
use Rattle.charge_model.specs.Problem.{Problem}
use Rattle.sidb_units.specs.declared.TheConstants.{MAX_ENTRIES}
use Rattle.level_range_laws.specs.declared.interval.Interval.{Interval}
use Rattle.level_range_laws.specs.RangePrefixes.{range_prefix_count}
use Rattle.level_range_laws.specs.Parts.{Printed, ArePrinted}
use Rattle.level_range_laws.specs.Candidates.{AreAllCandidates}
use Rattle.level_candidates.specs.Answer.{HasManyCandidates}
use Rattle.level_range.specs.declared.range_answer.RangeAnswer.{RangeAnswer}
use Rattle.level_range.specs.declared.range_answer.RangeAnswer.TheVariants.{List as Listed, Budget, ListTooLong, Memory}

-- the levels from start through end
abbrev pub levels_of : ℤ → ℤ → Interval
levels_of start end = record { first = start; last = end }

-- at most 4,096 lists are possibly valid at some level
pub record HasFewCandidates (p : Problem) (levels : Interval) : Type 0 where
  pub all : List (List Charge)
  pub whole : AreAllCandidates p levels all
  pub few : length all ≤ MAX_ENTRIES

-- the printed parts, where the range prefixes keep the limit and the candidates are few
pub record AreListed (p : Problem) (levels : Interval) (limit : ℕ) (parts : List Printed)
    : Type 0 where
  pub within : range_prefix_count p levels ≤ limit
  pub few : HasFewCandidates p levels
  pub printed : ArePrinted p levels parts

-- the parts; that there are more range prefixes than the limit; or not, and too many candidates
abbrev pub IsAnswerOver : Problem → Interval → ℕ → RangeAnswer → Type 0
IsAnswerOver p levels limit (Listed parts) = AreListed p levels limit parts
IsAnswerOver p levels limit Budget = limit < range_prefix_count p levels
IsAnswerOver p levels limit ListTooLong =
    (range_prefix_count p levels ≤ limit) × HasManyCandidates p levels
IsAnswerOver p levels limit Memory = Unit {0}
