-- what a search for candidates answers
use Rattle.std.specs.Prelude.{◌≡◌, ℕ, ◌<◌, ◌≤◌, List, length, All}
use Rattle.charge_model.specs.declared.charge.Charge.{Charge}
use Rattle.charge_model.specs.Problem.{Problem}
use Rattle.sidb_units.specs.declared.TheConstants.{MAX_ENTRIES}
use Rattle.level_range_laws.specs.declared.interval.Interval.{Interval}
use Rattle.level_range_laws.specs.RangePrefixes.{range_prefix_count}
use Rattle.level_candidates.specs.declared.candidate.LevelCandidate.{LevelCandidate}
use Rattle.level_candidates.specs.declared.answer.CandidatesAnswer.{CandidatesAnswer}
use Rattle.level_candidates.specs.declared.answer.CandidatesAnswer.TheVariants.{Candidates, Budget, TooMany, Memory}
use Rattle.level_range_laws.specs.Candidates.{AreAllCandidates}
use Rattle.level_candidates.specs.Candidates.{IsMeasured, AreCandidates, lists_of_level_candidates}
use Rattle.level_candidates.specs.Visits.{kept}

-- all range prefixes were entered, and of all candidates one more than may be found is kept
pub record IsSearchedThrough (p : Problem) (levels : Interval) (limit : ℕ)
    (xs : List LevelCandidate)
    : Type 0 where
  pub within : range_prefix_count p levels ≤ limit
  pub all : List (List Charge)
  pub kept : lists_of_level_candidates xs ≡ kept all
  pub whole : AreAllCandidates p levels all
  pub measured : All (IsMeasured p levels) xs

-- there are more candidates than may be found
pub record HasManyCandidates (p : Problem) (levels : Interval) : Type 0 where
  pub all : List (List Charge)
  pub whole : AreAllCandidates p levels all
  pub many : MAX_ENTRIES < length all

-- the candidates, at most 4,096, where the range prefixes keep the limit
pub record AreCandidatesWithin (p : Problem) (levels : Interval) (limit : ℕ)
    (xs : List LevelCandidate)
    : Type 0 where
  pub within : range_prefix_count p levels ≤ limit
  pub candidates : AreCandidates p levels xs
  pub few : length xs ≤ MAX_ENTRIES

-- the candidates; that there are more range prefixes than the limit; or not, and too many candidates
abbrev pub IsCandidatesAnswer : Problem → Interval → ℕ → CandidatesAnswer → Type 0
IsCandidatesAnswer p levels limit (Candidates xs) = AreCandidatesWithin p levels limit xs.items
IsCandidatesAnswer p levels limit Budget = limit < range_prefix_count p levels
IsCandidatesAnswer p levels limit TooMany =
    (range_prefix_count p levels ≤ limit) × HasManyCandidates p levels
IsCandidatesAnswer p levels limit Memory = Unit {0}
