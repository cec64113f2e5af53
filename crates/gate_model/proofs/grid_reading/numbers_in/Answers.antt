use Rattle.gate_model.proofs.grid_reading.numbers_in.Goals as goal

pub returns-in_default-clause-none : goal.returns-in_default-clause-none
returns-in_default-clause-none c = λ axis are. c.in_default.ensures.none axis.start are.start_number

pub returns-in_default-step_in-clause-none : goal.returns-in_default-step_in-clause-none
returns-in_default-step_in-clause-none c = λ axis are. c.in_default-step_in.ensures.none axis.step are.step_number

pub returns-in_default-count_in-clause-none : goal.returns-in_default-count_in-clause-none
returns-in_default-count_in-clause-none c = λ axis are. c.in_default-count_in.ensures.none axis.count are.count_number
