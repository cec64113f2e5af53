use Rattle.sqd_dots.proofs.OneDrawing.{one_drawing}
use Rattle.sqd_dots.proofs.laws.one_drawing.Goals as goal

pub returns : goal.returns
returns c = one_drawing c.one_reading.ensures
