-- what the gate that the settings give answers on a layout
use Rattle.std.specs.Prelude.{◌≡◌, ℕ, List, Some}
use Rattle.sidb_layout.specs.Layout.{Arrangement}
use Rattle.command_words.specs.declared.gate_settings.GateSettings.{GateSettings}
use Rattle.command_words.specs.declared.settings.Settings.{Settings}
use Rattle.gate_model.specs.declared.function.Function.{Function}
use Rattle.gate_model.specs.Grids.{Axes}
use Rattle.gate_model.specs.Logic.{Logic, logic_of}
use Rattle.run_answer.specs.declared.status.Status.{Status}
use Rattle.task_gate.specs.TruthAnswer.{IsTruthOfGate}
use Rattle.task_gate.specs.DomainAnswer.{IsDomainOfGate}
use Rattle.task_gate.specs.Told.{TellsDomainOfGate, TellsTruthOfGate}

-- the gate of the pairs and the function that the settings give
pub record IsGivenGate (g : GateSettings) (gate : Logic) : Type 0 where
  pub function : Function
  pub given : g.function ≡ Some function
  pub gate_is : gate ≡ logic_of g.inputs g.outputs function

-- the truth answer of that gate
pub record IsTruthAnswer (s : Settings) (layout : Arrangement) (status : Status) (text : List ℕ)
    : Type 0 where
  pub gate : Logic
  pub given : IsGivenGate s.gate gate
  pub answers : IsTruthOfGate s gate layout status text

-- its domain answer over the grid that the settings give
pub record IsDomainAnswer (s : Settings) (layout : Arrangement) (status : Status) (text : List ℕ)
    : Type 0 where
  pub gate : Logic
  pub given : IsGivenGate s.gate gate
  pub axes : Axes
  pub points : s.gate.grid ≡ Some axes
  pub answers : IsDomainOfGate s gate axes layout status text

-- the text tells what that gate does under every potential table
pub record TellsTruth (s : Settings) (layout : Arrangement) (text : List ℕ) : Type 0 where
  pub gate : Logic
  pub given : IsGivenGate s.gate gate
  pub tells : TellsTruthOfGate s gate layout text

-- the text tells what it does at each point of that grid under every potential table
pub record TellsDomain (s : Settings) (layout : Arrangement) (text : List ℕ) : Type 0 where
  pub gate : Logic
  pub given : IsGivenGate s.gate gate
  pub axes : Axes
  pub points : s.gate.grid ≡ Some axes
  pub tells : TellsDomainOfGate s gate axes layout text
