use Rattle.text_rows.proofs.RowLemmas.{rows_back}
use Rattle.text_rows.proofs.laws.rows_back.Goals as goal

pub returns : goal.returns
returns c = rows_back
