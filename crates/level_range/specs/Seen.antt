-- what entries and parts stand for
use Rattle.std.specs.Prelude.{List, [], map, Option, Some, None, if◌then◌else◌}
use Rattle.level_range_laws.specs.Answers.{Outcome}
use Rattle.level_range_laws.specs.Parts.{Printed}
use Rattle.level_range.specs.declared.entries.PartEntry.{PartEntry}
use Rattle.level_range.specs.declared.entries.PrintedPart.{PrintedPart}

-- an entry of an answer
abbrev pub outcome_of : PartEntry → Outcome
outcome_of e = record { charges = e.charges; certain = e.certain }

-- a run of levels with its answer, or with none where it is split
abbrev pub printed_of : PrintedPart → Printed
printed_of x = record {
  first = x.first.value;
  last = x.last.value;
  answer = if x.split then None else Some (map outcome_of x.entries.items);
}

-- the entries of an answer, and none where there is no answer
abbrev pub or_none : Option (List Outcome) → List Outcome
or_none None = []
or_none (Some answer) = answer

-- the entries of a part, and none where it is split
abbrev pub entries_in : Printed → List Outcome
entries_in x = or_none x.answer
