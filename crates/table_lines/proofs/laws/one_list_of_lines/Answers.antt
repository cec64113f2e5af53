use Rattle.table_lines.proofs.Unique.{one_reading}
use Rattle.table_lines.proofs.laws.one_list_of_lines.Goals as goal

pub returns : goal.returns
returns c = one_reading
