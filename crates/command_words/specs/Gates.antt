-- what the options of a gate give
use Rattle.std.specs.Prelude.{◌≡◌, ℕ, List, [], Option, Some, None, codes, length}
use Rattle.clap.specs.Walk.{Text}
use Rattle.gate_model.specs.declared.function.Function.{Function}
use Rattle.gate_model.specs.declared.pairs.PairOf.{PairOf}
use Rattle.gate_model.specs.Functions.{IsFunctionNamed}
use Rattle.gate_model.specs.GridTexts.{IsGridText}
use Rattle.gate_model.specs.Logic.{HaveDistinctPlaces, IsLogic, logic_of}
use Rattle.gate_model.specs.Pairs.{ArePairs}
use Rattle.command_words.specs.declared.gate_settings.GateSettings.{GateSettings}
use Rattle.command_words.specs.Options.{IsReadWhereGiven}

-- the pairs that a text is, at most so many; without a text there are none
abbrev pub AreToldPairs : ℕ → Option Text → List PairOf → Type 0
AreToldPairs most None pairs = pairs ≡ []
AreToldPairs most (Some text) pairs = ArePairs most text pairs

-- the function of so many inputs that a name is of; without a name there is none
abbrev pub IsToldFunction : ℕ → Option Text → Option Function → Type 0
IsToldFunction inputs told f = IsReadWhereGiven (λ name f. IsFunctionNamed name inputs f) told f

-- the pairs, the function and the grid are what these texts give; all places of the pairs
-- are distinct
pub record IsGateOf (input output name points : Option Text) (g : GateSettings) : Type 0 where
  pub inputs : AreToldPairs 2 input g.inputs
  pub outputs : AreToldPairs 4 output g.outputs
  pub function : IsToldFunction (length g.inputs) name g.function
  pub grid : IsReadWhereGiven IsGridText points g.grid
  pub distinct : HaveDistinctPlaces g.inputs g.outputs

-- the gate is what these values of the options give
abbrev pub AreGateSettings : (Text → Option Text) → GateSettings → Type 0
AreGateSettings value g =
    IsGateOf (value (codes "input")) (value (codes "output")) (value (codes "function"))
    (value (codes "grid")) g

-- the pairs and the function make a gate
pub record HasGate (g : GateSettings) : Type 0 where
  pub computed : Function
  pub given : g.function ≡ Some computed
  pub is_gate : IsLogic (logic_of g.inputs g.outputs computed)
