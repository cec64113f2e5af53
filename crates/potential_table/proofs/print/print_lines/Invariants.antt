use Rattle.std.proofs.Common.{◌≡◌, map, take}
use Rattle.text_rows.specs.Rows.{text_of}
use Rattle.table_lines.specs.Lines.{table_line_words}
use Rattle.potential_table.proofs.print.print_lines.Given as goal

abbrev pub invariant-loop-line : goal.invariant-loop-line
invariant-loop-line l = l.text.items ≡ text_of (map table_line_words (take l.line-index l.lines))
