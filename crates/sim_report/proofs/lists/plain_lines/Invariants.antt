use Rattle.std.proofs.Common.{◌≡◌, map, take, string_bytes}
use Rattle.text_rows.specs.Rows.{text_of}
use Rattle.entry_lines.specs.EntryLines.{entry_words}
use Rattle.sim_report.proofs.lists.plain_lines.Given as goal

abbrev pub invariant-loop-j : goal.invariant-loop-j
invariant-loop-j l = string_bytes l.text ≡ text_of (take l.j (map entry_words l.list))
