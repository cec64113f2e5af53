use Rattle.text_rows.proofs.RowLemmas.{one_text}
use Rattle.text_rows.proofs.laws.one_text.Goals as goal

pub returns : goal.returns
returns c = one_text
