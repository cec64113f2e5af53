use Rattle.std.proofs.Common.{◌≡◌, ◌++◌, string_bytes}
use Rattle.text_rows.specs.Rows.{text_of}
use Rattle.range_report.specs.RangeText.{parts_rows}
use Rattle.range_report.proofs.Behind.{lines_due}
use Rattle.range_report.proofs.parts.part_lines.Given as goal

abbrev pub invariant-loop-k : goal.invariant-loop-k
invariant-loop-k l = string_bytes l.text ++ lines_due l.k l.parts ≡ text_of (parts_rows l.parts)
