use Rattle.sqd_marks.proofs.Values.{same_mark}
use Rattle.sqd_marks.proofs.laws.one_spelling.Goals as goal

pub returns : goal.returns
returns c = same_mark
