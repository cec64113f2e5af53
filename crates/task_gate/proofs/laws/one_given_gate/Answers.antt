use Rattle.gate_model.specs.Logic.{logic_of}
use Rattle.task_gate.proofs.Given.{given_by, one_gate}
use Rattle.task_gate.proofs.laws.one_given_gate.Goals as goal

pub returns : goal.returns
returns c = record { one = one_gate; some = λ g has. (logic_of g.inputs g.outputs has.computed, given_by g has, has.is_gate) }
