use Rattle.gate_model.proofs.GridLemmas.{one_grid}
use Rattle.gate_model.proofs.laws.one_grid.Goals as goal

pub returns : goal.returns
returns c = one_grid c.one_reading.ensures.value
