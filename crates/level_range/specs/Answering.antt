-- the answer at a level, by the candidates of an interval, and where answers may change
use Rattle.std.specs.Prelude.{ℕ, ℤ, ◌≤ℤ◌, ◌<ℤ◌, ◌↔◌, List, [], map, All, slice_index_or}
use Rattle.charge_model.specs.declared.charge.Charge.{Charge}
use Rattle.level_range_laws.specs.declared.interval.Interval.{Interval}
use Rattle.level_range_laws.specs.Levels.{IsIn}
use Rattle.level_candidates.specs.declared.candidate.LevelCandidate.{LevelCandidate}
use Rattle.level_candidates.specs.Candidates.{lists_of_level_candidates}

-- the charge lists of the candidates in these places
abbrev pub picked : List LevelCandidate → List ℕ → List (List Charge)
picked xs places = map (λ k. slice_index_or (lists_of_level_candidates xs) k []) places

-- two levels are both in an interval, or both are not
abbrev pub IsInAsMuch : Interval → ℤ → ℤ → Type 0
IsInAsMuch levels a b = IsIn levels a ↔ IsIn levels b

-- a list is possibly valid at both levels or at none, and certainly valid likewise
pub record HasSameLevels (x : LevelCandidate) (a b : ℤ) : Type 0 where
  pub possible : IsInAsMuch x.ends.possible a b
  pub certain : IsInAsMuch x.ends.certain a b

-- from one level on up to another, not included, nothing changes
abbrev pub NothingChanges : List LevelCandidate → ℤ → ℤ → Type 0
NothingChanges xs level next =
    (m : ℤ) → level ≤ℤ m → m <ℤ next → All (λ x. HasSameLevels x level m) xs
