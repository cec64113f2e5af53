use Rattle.std.proofs.Common.{◌∙◌, map}
use Rattle.level_range_laws.specs.Parts.{printed_at}
use Rattle.level_range.specs.Seen.{outcome_of, entries_in}
use Rattle.range_report.specs.RangeText.{outcome_row}
use Rattle.range_report.proofs.Behind.{one_more_row, row_at}
use Rattle.range_report.proofs.entries.outcome_lines.Goals as goal

pub loop-j-preserved : goal.loop-j-preserved
loop-j-preserved c =
    let entries = entries_in (printed_at c.args.parts.now c.args.k) in
    one_more_row (map outcome_row entries) c.loop-j.j (outcome_row (outcome_of c.entry-entry.result)) _ _ _ (row_at outcome_row entries c.loop-j.j _ c.entry-entry.ensures) c.loop-j.invariant (c.deref.ensures ∙ c.in_ok-line.ensures) c.in_ok-push_line.ensures
