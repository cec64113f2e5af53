use Rattle.std.proofs.Common.{sym, subst}
use Rattle.std.specs.Prelude.{All}
use Rattle.gate_report.specs.DomainText.{IsPrintable}
use Rattle.task_gate.proofs.Cells.{all_printable}
use Rattle.task_gate.proofs.domain.placed_answer.Goals as goal

pub report_of-requires : goal.report_of-requires
report_of-requires g c = subst (All IsPrintable) (sym c.as_slice.ensures.value) (all_printable c.args.placed.now c.args.settings.now.params c.args.grid.now c.in_ok-cells.cells.items c.in_ok-cells.ensures)
