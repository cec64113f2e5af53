-- gates as the definitions see them
use Rattle.gate_model.specs.Logic.{Logic, logic_of}
use Rattle.gate_model.specs.declared.gate.LogicSpec.TheInside.{Inside}

-- the gate of the fields
abbrev pub seen_gate : Inside → Logic
seen_gate s = logic_of s.inputs.items s.outputs.items s.function
