use Rattle.gate_model.proofs.GateDecided.{distinct_decided}
use Rattle.gate_model.proofs.laws.distinct_or_not.Goals as goal

pub returns : goal.returns
returns c = distinct_decided
