use Rattle.std.proofs.Common.{◌≡◌, map, take, string_bytes}
use Rattle.std.specs.Prelude.{zip}
use Rattle.text_rows.specs.Rows.{text_of}
use Rattle.sim_report.specs.OccupationText.{share_row}
use Rattle.sim_report.proofs.shares.share_lines.Given as goal

abbrev pub invariant-loop-j : goal.invariant-loop-j
invariant-loop-j l = string_bytes l.text ≡ text_of (take l.j (map share_row (zip l.list l.shares)))
