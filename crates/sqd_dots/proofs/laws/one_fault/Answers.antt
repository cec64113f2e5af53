use Rattle.sqd_dots.proofs.OneDrawing.{one_fault}
use Rattle.sqd_dots.proofs.laws.one_fault.Goals as goal

pub returns : goal.returns
returns c = one_fault c.one_reading.ensures c.one_fault.ensures c.no_fault.ensures
