use Rattle.std.proofs.Common.{◌≡◌, map, take, string_bytes}
use Rattle.text_rows.specs.Rows.{text_of}
use Rattle.level_range_laws.specs.Parts.{printed_at}
use Rattle.level_range.specs.Seen.{entries_in}
use Rattle.range_report.specs.RangeText.{outcome_row}
use Rattle.range_report.proofs.entries.outcome_lines.Given as goal

abbrev pub invariant-loop-j : goal.invariant-loop-j
invariant-loop-j l = string_bytes l.text ≡ text_of (take l.j (map outcome_row (entries_in (printed_at l.parts l.k))))
