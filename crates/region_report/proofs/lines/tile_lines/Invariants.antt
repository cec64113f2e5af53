use Rattle.std.proofs.Common.{◌≡◌, ◌++◌, drop, string_bytes}
use Rattle.region_report.proofs.Behind.{lines_due}
use Rattle.region_report.proofs.lines.tile_lines.Given as goal

abbrev pub invariant-loop-k : goal.invariant-loop-k
invariant-loop-k l = string_bytes l.text ++ lines_due (drop l.k l.tiles) ≡ lines_due l.tiles
