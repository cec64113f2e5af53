use Rattle.sqd_nesting.proofs.Once.{one_whole}
use Rattle.sqd_nesting.proofs.laws.one_reading.Goals as goal

pub returns : goal.returns
returns c = one_whole c.one_mark.ensures
