use Rattle.std.proofs.Common.{pos}
use Rattle.gate_model.proofs.grid_reading.count_in.Goals as goal

pub returns-in-Err-clause-none : goal.returns-in-Err-clause-none
returns-in-Err-clause-none c = λ n is. absurd (cc (c.in-Err.ensures.value (pos n) is))
