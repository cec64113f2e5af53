use Rattle.table_lines.proofs.LinesExist.{has_lines}
use Rattle.table_lines.proofs.laws.each_text_has_lines.Goals as goal

pub returns : goal.returns
returns c = λ text. has_lines c.each_word_is_read.ensures text (c.each_text_has_rows.ensures text)
