use Rattle.sqd_dots.proofs.OneDrawing.{some_reading}
use Rattle.sqd_dots.proofs.laws.some_reading.Goals as goal

pub returns : goal.returns
returns c = some_reading c.some_reading.ensures
