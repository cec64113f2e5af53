use Rattle.std.proofs.Common.{◌≡◌, ◌++◌, [], length, map}
use Rattle.text_rows.specs.Rows.{text_of}
use Rattle.table_lines.specs.Lines.{table_line_words}
use Rattle.table_lines.specs.FineLines.{AreFineTableLines}
use Rattle.table_lines.specs.Seen.{IsCounted}
use Rattle.table_lines.proofs.front.read_front.Given as goal

abbrev pub invariant-lines : goal.invariant-lines
invariant-lines l = record {
  text : l.text ≡ text_of (map table_line_words l.seen.lines.items) ++ l.rest;
  fine : AreFineTableLines [] l.seen.lines.items;
  counted : IsCounted l.seen;
}

abbrev pub decreases-lines : goal.decreases-lines
decreases-lines l = length l.rest
