use Rattle.potential_table.proofs.PrintedText.{read_back}
use Rattle.potential_table.proofs.laws.read_back.Goals as goal

pub returns : goal.returns
returns c = read_back
