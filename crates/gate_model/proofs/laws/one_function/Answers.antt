use Rattle.gate_model.proofs.NamedFunctions.{one_named}
use Rattle.gate_model.proofs.laws.one_function.Goals as goal

pub returns : goal.returns
returns c = one_named
