use Rattle.sqd_scan.proofs.Unique.{one_mark}
use Rattle.sqd_scan.proofs.laws.one_mark.Goals as goal

pub returns : goal.returns
returns c = one_mark c.one_spelling.ensures
