use Rattle.sqd_layout.proofs.OneDrawnLayout.{one_sqd_fault}
use Rattle.sqd_layout.proofs.laws.one_sqd_fault.Goals as goal

pub returns : goal.returns
returns c = one_sqd_fault c.one_drawing.ensures c.one_fault.ensures c.no_fault.ensures c.one_refusal.ensures
