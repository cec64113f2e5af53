-- the parts of an interval of levels, and what is printed of them
use Rattle.std.specs.Prelude.{◌≡◌, ℕ, ◌-◌, ◌<◌, ◌≤◌, ℤ, pos, ◌+ℤ◌, ◌-ℤ◌, ◌≤ℤ◌, ◌<ℤ◌, Option, Some, None, IsSome, List, [], ◌∷◌, length, take, All, slice_index_or}
use Rattle.charge_model.specs.Problem.{Problem}
use Rattle.level_range_laws.specs.declared.interval.Interval.{Interval}
use Rattle.level_range_laws.specs.Answers.{Outcome, IsAnswerAt}

-- levels from first to last, and an answer
pub record Part : Type 0 where
  pub first : ℤ
  pub last : ℤ
  pub answer : List Outcome

-- a greatest run of levels of an interval with equal answers
pub record IsPart (p : Problem) (levels : Interval) (part : Part) : Type 0 where
  pub from : levels.first ≤ℤ part.first
  pub some : part.first ≤ℤ part.last
  pub to : part.last ≤ℤ levels.last
  pub same : (m : ℤ) → part.first ≤ℤ m → m ≤ℤ part.last → IsAnswerAt p m part.answer
  pub before : levels.first <ℤ part.first → IsAnswerAt p (part.first -ℤ pos 1) part.answer → ⊥
  pub after : part.last <ℤ levels.last → IsAnswerAt p (part.last +ℤ pos 1) part.answer → ⊥

-- what is printed of a run of levels: its answer, or none where it is split
pub record Printed : Type 0 where
  pub first : ℤ
  pub last : ℤ
  pub answer : Option (List Outcome)

-- a run of levels with this answer
abbrev pub printed_whole : ℤ → ℤ → List Outcome → Printed
printed_whole first last answer = record { first = first; last = last; answer = Some answer }

-- a run of levels that is split
abbrev pub printed_split : ℤ → ℤ → Printed
printed_split first last = record { first = first; last = last; answer = None }

-- the part in a place
abbrev pub printed_at : List Printed → ℕ → Printed
printed_at parts k = slice_index_or parts k (printed_split (pos 0) (pos 0))

-- a run has a level
pub record HasLevel (x : Printed) (level : ℤ) : Type 0 where
  pub from : x.first ≤ℤ level
  pub to : level ≤ℤ x.last

-- exactly one of the runs has a level
pub record IsInOne (parts : List Printed) (level : ℤ) : Type 0 where
  pub place : ℕ
  pub within : place < length parts
  pub has : HasLevel (printed_at parts place) level
  pub alone : (k : ℕ) → k < length parts → HasLevel (printed_at parts k) level → k ≡ place

-- two neighbours among some levels have different answers
pub record HasChange (p : Problem) (first last : ℤ) : Type 0 where
  pub level : ℤ
  pub above : first <ℤ level
  pub below : level ≤ℤ last
  pub answer : List Outcome
  pub before : IsAnswerAt p (level -ℤ pos 1) answer
  pub after : IsAnswerAt p level answer → ⊥

-- a part with its answer; or a split one, whose levels are those of more parts than one
abbrev pub IsPrintedPart : Problem → Interval → ℤ → ℤ → Option (List Outcome) → Type 0
IsPrintedPart p levels first last (Some answer) =
    IsPart p levels (record { first = first; last = last; answer = answer })
IsPrintedPart p levels first last None = HasChange p first last

-- one after the other, from a level on through another
abbrev pub Follow : ℤ → ℤ → List Printed → Type 0
Follow first last [] = first ≡ last +ℤ pos 1
Follow first last (x ∷ xs) =
    (x.first ≡ first) × (x.first ≤ℤ x.last) × Follow (x.last +ℤ pos 1) last xs

-- at most this many parts are printed
abbrev pub most_parts : ℕ
most_parts = 256

-- what is printed of an interval of levels: its parts, in order; where there are more than 256,
-- the first 255, and one split part from the next level through the last
pub record ArePrinted (p : Problem) (levels : Interval) (parts : List Printed) : Type 0 where
  pub follow : Follow levels.first levels.last parts
  pub each : All (λ x. IsPrintedPart p levels x.first x.last x.answer) parts
  pub few : length parts ≤ most_parts
  pub whole : All (λ x. IsSome x.answer) (take (most_parts - 1) parts)
