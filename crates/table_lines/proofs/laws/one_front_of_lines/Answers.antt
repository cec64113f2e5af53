use Rattle.table_lines.proofs.OneFront.{same_front}
use Rattle.table_lines.proofs.laws.one_front_of_lines.Goals as goal

pub returns : goal.returns
returns c = same_front
