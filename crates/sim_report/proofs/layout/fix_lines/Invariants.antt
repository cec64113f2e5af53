use Rattle.std.proofs.Common.{◌≡◌, map, take, string_bytes}
use Rattle.std.specs.List.{enumerate_from}
use Rattle.text_rows.specs.Rows.{text_of}
use Rattle.sim_report.specs.GroundText.{fix_row}
use Rattle.sim_report.proofs.layout.fix_lines.Given as goal

abbrev pub invariant-loop-a : goal.invariant-loop-a
invariant-loop-a l = string_bytes l.text ≡ text_of (take l.a (map fix_row (enumerate_from 0 l.layout.fixes)))
