use Rattle.sqd_nesting.proofs.Outcomes.{outcome}
use Rattle.sqd_nesting.proofs.laws.some_reading.Goals as goal

pub returns : goal.returns
returns c = outcome c.some_front.ensures
