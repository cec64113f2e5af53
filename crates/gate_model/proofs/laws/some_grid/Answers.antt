use Rattle.gate_model.proofs.GridDecided.{some_grid_text}
use Rattle.gate_model.proofs.laws.some_grid.Goals as goal

pub returns : goal.returns
returns c = some_grid_text (record {
  some = c.one_reading.ensures.some;
  no_fault = c.one_reading.ensures.no_fault;
}) c.one_reading.ensures.value
