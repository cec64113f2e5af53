use Rattle.gate_model.proofs.GridLemmas.{no_first_axis, no_second_axis}
use Rattle.gate_model.proofs.grid_reading.read_grid.Goals as goal

pub returns-in_default-axis_in-clause-none : goal.returns-in_default-axis_in-clause-none
returns-in_default-axis_in-clause-none c = no_first_axis c.args.text.now _ _ c.in-Some.ensures.found c.in_default-axis_in.ensures.none

pub returns-in_default-axis_in-2-clause-none : goal.returns-in_default-axis_in-2-clause-none
returns-in_default-axis_in-2-clause-none c = no_second_axis c.args.text.now _ _ c.in-Some.ensures.found c.in_default-axis_in-2.ensures.none
