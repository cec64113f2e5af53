-- gates: the pairs of the inputs and the outputs, and the function
use Rattle.std.specs.Prelude.{◌≡◌, ◌≢◌, ◌≤◌, ℕ, ◌^◌, ◌<◌, List, [], ◌∷◌, ◌++◌, AllPairs, length, slice_index}
use Rattle.gate_model.specs.declared.pairs.PairOf.{PairOf}
use Rattle.gate_model.specs.declared.function.Function.{Function}

-- a gate: its input pairs, its output pairs, and its function
pub record Logic : Type 0 where
  pub inputs : List PairOf
  pub outputs : List PairOf
  pub function : Function

-- these parts together
abbrev pub logic_of : List PairOf → List PairOf → Function → Logic
logic_of inputs outputs function =
    record { inputs = inputs; outputs = outputs; function = function }

-- the places of pairs
abbrev pub places_in : List PairOf → List ℕ
places_in [] = []
places_in (pair ∷ pairs) = pair.a ∷ pair.b ∷ places_in pairs

-- the number at place j of a list stands before it too
abbrev pub StandsBefore : List ℕ → ℕ → Type 0
StandsBefore places j = (i : ℕ) × (i < j) × (slice_index places i ≡ slice_index places j)

-- no number of a list stands in it twice
unfoldable pub AllDiffer : List ℕ → Type 0
AllDiffer places = AllPairs (λ x y. x ≢ y) places

-- all places of the inputs and of the outputs are distinct
abbrev pub HaveDistinctPlaces : List PairOf → List PairOf → Type 0
HaveDistinctPlaces inputs outputs = AllDiffer (places_in inputs ++ places_in outputs)

-- 1 or 2 inputs, 1 to 4 outputs, a function of so many inputs, and all places distinct
pub record IsLogic (gate : Logic) : Type 0 where
  pub some_input : 1 ≤ length gate.inputs
  pub few_inputs : length gate.inputs ≤ 2
  pub some_output : 1 ≤ length gate.outputs
  pub few_outputs : length gate.outputs ≤ 4
  pub of_inputs : gate.function.inputs ≡ length gate.inputs
  pub distinct : HaveDistinctPlaces gate.inputs gate.outputs

-- how many patterns of its inputs a gate has
abbrev pub pattern_count : Logic → ℕ
pattern_count gate = 2 ^ length gate.inputs
