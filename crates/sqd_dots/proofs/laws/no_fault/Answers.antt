use Rattle.sqd_dots.proofs.OneDrawing.{no_fault}
use Rattle.sqd_dots.proofs.laws.no_fault.Goals as goal

pub returns : goal.returns
returns c = no_fault c.one_reading.ensures c.no_fault.ensures
