use Rattle.gate_model.proofs.NamedFunctions.{some_named}
use Rattle.gate_model.proofs.laws.some_function.Goals as goal

pub returns : goal.returns
returns c = some_named
