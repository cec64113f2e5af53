use Rattle.gate_model.proofs.GridLemmas.{no_numbers, outside_text}
use Rattle.gate_model.proofs.grid_reading.axis_in.Goals as goal

pub returns-in_default-numbers_in-clause-none : goal.returns-in_default-numbers_in-clause-none
returns-in_default-numbers_in-clause-none c = no_numbers c.args.quantity.now c.args.part.now _ _ _ c.in-Some.ensures.found c.in_default-numbers_in.ensures.none

pub returns-then-not-has_points_in-clause-none : goal.returns-then-not-has_points_in-clause-none
returns-then-not-has_points_in-clause-none c =
    outside_text c.one_reading.ensures.value c.args.quantity.now c.args.part.now _ _ _ c.in-Some.ensures.found c.in-Some-numbers_in.axis c.in-Some-numbers_in.ensures.found c.if-not-has_points_in.ensures
