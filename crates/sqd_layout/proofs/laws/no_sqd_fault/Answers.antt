use Rattle.sqd_layout.proofs.OneDrawnLayout.{no_sqd_fault}
use Rattle.sqd_layout.proofs.laws.no_sqd_fault.Goals as goal

pub returns : goal.returns
returns c = no_sqd_fault c.one_drawing.ensures c.no_fault.ensures c.a_layout_is_not_refused.ensures
