use Rattle.potential_table.proofs.PrintedText.{printed_text}
use Rattle.potential_table.proofs.laws.printed_text.Goals as goal

pub returns : goal.returns
returns c = printed_text
