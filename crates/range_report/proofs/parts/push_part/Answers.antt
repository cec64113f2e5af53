use Rattle.std.proofs.Common.{◌∙◌, map}
use Rattle.level_range_laws.specs.Parts.{printed_at}
use Rattle.level_range.specs.Seen.{entries_in}
use Rattle.range_report.specs.RangeText.{part_row, outcome_row}
use Rattle.range_report.proofs.Behind.{line_and_rows}
use Rattle.range_report.proofs.parts.push_part.Goals as goal

pub returns : goal.returns
returns c =
    let x = printed_at c.args.parts.now c.args.k in
    line_and_rows (part_row x) (map outcome_row (entries_in x)) _ _ _ _ _ (c.deref.ensures ∙ c.in_ok-line.ensures) (c.deref-2.ensures ∙ c.in_ok-entries.ensures) c.in_ok-push_line.ensures c.in_ok-push_str.ensures.bytes
