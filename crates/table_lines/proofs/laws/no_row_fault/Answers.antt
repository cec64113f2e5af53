use Rattle.table_lines.proofs.Unique.{no_row_fault}
use Rattle.table_lines.proofs.laws.no_row_fault.Goals as goal

pub returns : goal.returns
returns c = no_row_fault
