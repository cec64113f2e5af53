use Rattle.std.proofs.Common.{◌∙◌, map}
use Rattle.entry_lines.specs.EntryLines.{entry_words}
use Rattle.gate_report.specs.TruthText.{pattern_row}
use Rattle.gate_report.proofs.Behind.{line_and_entries}
use Rattle.gate_report.proofs.patterns.push_pattern.Goals as goal

pub returns : goal.returns
returns c =
    line_and_entries (pattern_row c.args.k c.args.answer.now) (map entry_words c.args.answer.now.list) _ _ _ _ _ _ (c.deref.ensures ∙ c.in_ok-line.ensures) (c.deref-2.ensures ∙ c.in_ok-entries.ensures) c.in_ok-push_str.ensures.bytes c.in_ok-push_str-2.ensures.bytes c.in_ok-push_str-3.ensures.bytes
