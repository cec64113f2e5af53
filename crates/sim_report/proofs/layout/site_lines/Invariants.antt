use Rattle.std.proofs.Common.{◌≡◌, map, take, string_bytes}
use Rattle.std.specs.List.{enumerate_from}
use Rattle.text_rows.specs.Rows.{text_of}
use Rattle.sim_report.specs.GroundText.{site_row}
use Rattle.sim_report.proofs.layout.site_lines.Given as goal

abbrev pub invariant-loop-i : goal.invariant-loop-i
invariant-loop-i l = string_bytes l.text ≡ text_of (take l.i (map site_row (enumerate_from 0 l.layout.sites)))
