use Rattle.std.proofs.Common.{◌∙◌, sym}
use Rattle.text_rows.proofs.RowLemmas.{same_number}
use Rattle.text_rows.proofs.laws.one_number.Goals as goal

pub returns : goal.returns
returns c = λ word y z h k. same_number y z h.1 k.1 (sym h.0 ∙ k.0)
