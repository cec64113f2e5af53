-- what the levels of a range answer
use Rattle.std.specs.Prelude.{◌≡◌, ◌⊎◌, ℕ, ◌<◌, ◌≤◌, neg_ℤ, List, Some}
use Rattle.charge_model.specs.Problem.{Problem}
use Rattle.command_words.specs.declared.settings.DepthRange.{DepthRange}
use Rattle.command_words.specs.declared.settings.Settings.{Settings}
use Rattle.level_range_laws.specs.declared.interval.Interval.{Interval}
use Rattle.level_range_laws.specs.RangePrefixes.{range_prefix_count}
use Rattle.level_range_laws.specs.Parts.{Printed}
use Rattle.level_candidates.specs.Answer.{HasManyCandidates}
use Rattle.level_range.specs.Answer.{AreListed}
use Rattle.range_report.specs.RangeText.{range_text}
use Rattle.run_answer.specs.declared.status.Status.{Status}
use Rattle.run_answer.specs.declared.status.Status.TheVariants.{Answered}
use Rattle.run_answer.specs.Status.{IsBudgetAnswer, IsLongListAnswer}

-- the levels of a range of depths: from the greatest depth below 0 through the least, in 10^-12 V
abbrev pub levels_between : DepthRange → Interval
levels_between range = record { first = neg_ℤ range.to; last = neg_ℤ range.from }

-- the text of the printed parts of these levels, where the range prefixes keep the limit and at
-- most 4,096 lists are possibly valid at some level
pub record IsRangeReport (p : Problem) (levels : Interval) (limit : ℕ) (text : List ℕ) : Type 0
  where
    pub parts : List Printed
    pub list : AreListed p levels limit parts
    pub prints : text ≡ range_text p.sites parts

-- why there is no such text: there are more range prefixes than the limit, or there are not, and
-- more than 4,096 lists are possibly valid at some level
abbrev pub IsRangeUnlisted : Problem → Interval → ℕ → Status → List ℕ → Type 0
IsRangeUnlisted p levels limit status text =
    ((limit < range_prefix_count p levels) × IsBudgetAnswer limit status text)
    ⊎ ((range_prefix_count p levels ≤ limit) × HasManyCandidates p levels
    × IsLongListAnswer status text)

-- that text, or the line that says why there is none
abbrev pub IsAnswerWithin : Problem → Interval → ℕ → Status → List ℕ → Type 0
IsAnswerWithin p levels limit status text =
    ((status ≡ Answered) × IsRangeReport p levels limit text)
    ⊎ IsRangeUnlisted p levels limit status text

-- the answer of the range that the settings ask for, within their limit
pub record IsRangeAnswer (s : Settings) (p : Problem) (status : Status) (text : List ℕ) : Type 0
  where
    pub range : DepthRange
    pub asked : s.levels.range ≡ Some range
    pub answer : IsAnswerWithin p (levels_between range) s.search.limit status text
