use Rattle.sqd_layout.proofs.OneDrawnLayout.{one_drawn_layout}
use Rattle.sqd_layout.proofs.laws.one_drawn_layout.Goals as goal

pub returns : goal.returns
returns c = one_drawn_layout c.one_drawing.ensures c.one_layout.ensures
