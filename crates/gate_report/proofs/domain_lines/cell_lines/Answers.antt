use Rattle.std.proofs.Common.{◌∙◌, arith}
use Rattle.std.specs.List.{join_with_byte}
use Rattle.gate_report.specs.DomainText.{cell_row}
use Rattle.gate_report.proofs.Behind.{all_done, one_more, cells_due, cell_ends, cell_part, cell_steps, line_added}
use Rattle.gate_report.proofs.domain_lines.cell_lines.Goals as goal

pub loop-k-preserved : goal.loop-k-preserved
loop-k-preserved c = one_more cells_due cell_part cell_steps cell_ends c.args.cells.now c.loop-k.k c.cell_in.result _ _ _ c.cell_in.ensures.value c.loop-k.invariant
    (line_added _ _ (join_with_byte 32 (cell_row c.cell_in.result)) _ _ (c.deref.ensures ∙ c.in_ok-line.ensures) c.in_ok-push_str.ensures.bytes c.in_ok-push_str-2.ensures.bytes)

pub returns : goal.returns
returns c = all_done cells_due cell_part cell_steps cell_ends c.args.cells.now c.loop-k.k _ _ (omega arith) c.loop-k.invariant
