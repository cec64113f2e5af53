use Rattle.std.proofs.Common.{◌≡◌, ◌++◌, drop, string_bytes}
use Rattle.gate_report.proofs.Behind.{cells_due}
use Rattle.gate_report.proofs.domain_lines.cell_lines.Given as goal

abbrev pub invariant-loop-k : goal.invariant-loop-k
invariant-loop-k l = string_bytes l.text ++ cells_due l.k (drop l.k l.cells) ≡ cells_due 0 l.cells
