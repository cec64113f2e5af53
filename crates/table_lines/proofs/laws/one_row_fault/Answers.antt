use Rattle.table_lines.proofs.Unique.{one_row_fault}
use Rattle.table_lines.proofs.laws.one_row_fault.Goals as goal

pub returns : goal.returns
returns c = one_row_fault
