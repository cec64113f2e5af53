use Rattle.gate_model.proofs.GateDecided.{gate_decided}
use Rattle.gate_model.proofs.laws.gate_or_not.Goals as goal

pub returns : goal.returns
returns c = gate_decided
