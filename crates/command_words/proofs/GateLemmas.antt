-- what the options of a gate give is one thing
use Rattle.std.proofs.Common.{◌≡◌, ◌∙◌, sym, subst, ℕ, List, Option, None, Some, length}
use Rattle.clap.specs.Walk.{Text}
use Rattle.gate_model.specs.declared.function.Function.{Function}
use Rattle.gate_model.specs.declared.pairs.PairOf.{PairOf}
use Rattle.gate_model.specs.Functions.{IsFunctionNamed}
use Rattle.gate_model.specs.Grids.{Axes}
use Rattle.gate_model.specs.GridTexts.{IsGridText}
use Rattle.gate_model.specs.Logic.{HaveDistinctPlaces}
use Rattle.gate_model.specs.Pairs.{ArePairs}
use Rattle.command_words.specs.declared.gate_settings.GateSettings.{GateSettings}
use Rattle.command_words.specs.Gates.{AreToldPairs, IsGateOf, IsToldFunction}
use Rattle.command_words.proofs.Readings.{one_read}

-- a text is one list of pairs
abbrev pub ArePairsOnce : Type 0
ArePairsOnce = (most : ℕ) (text : List ℕ) (a b : List PairOf) → ArePairs most text a → ArePairs most text b → a ≡ b

-- an option gives one list of pairs
pub one_told : ArePairsOnce → (most : ℕ) (told : Option Text) (a b : List PairOf) → AreToldPairs most told a → AreToldPairs most told b → a ≡ b
one_told once most None a b is also = is ∙ sym also
one_told once most (Some text) a b is also = once most text a b is also

module _ (once : ArePairsOnce) (input output name points : Option Text) (g : GateSettings) (are : IsGateOf input output name points g) (inputs : List PairOf) (is : AreToldPairs 2 input inputs) where
  same_inputs : g.inputs ≡ inputs
  same_inputs = one_told once 2 input g.inputs inputs are.inputs is

  -- where the name is of no function of so many inputs, there is no such gate
  pub no_function : ((f : Option Function) → IsToldFunction (length inputs) name f → ⊥) → ⊥
  no_function none = none g.function (subst (λ (l : List PairOf). IsToldFunction (length l) name g.function) same_inputs are.function)

  -- nor is there one where places are not distinct
  pub not_distinct : (outputs : List PairOf) → AreToldPairs 4 output outputs → (HaveDistinctPlaces inputs outputs → ⊥) → ⊥
  not_distinct outputs also none =
      let same = one_told once 4 output g.outputs outputs are.outputs also in
      none (subst (λ (l : List PairOf). HaveDistinctPlaces inputs l) same (subst (λ (l : List PairOf). HaveDistinctPlaces l g.outputs) same_inputs are.distinct))

-- a text is one list of pairs, a name stands for one function, and a text is one grid
pub record AreGatesOnce : Type 0 where
  pub pairs : ArePairsOnce
  pub functions : (name : List ℕ) (inputs : ℕ) (f g : Function) → IsFunctionNamed name inputs f → IsFunctionNamed name inputs g → f ≡ g
  pub grids : (text : List ℕ) (a b : Axes) → IsGridText text a → IsGridText text b → a ≡ b

-- a gate is given by its pairs, its function and its grid
same_gate : (a b c d : List PairOf) (f g : Option Function) (p q : Option Axes) → a ≡ b → c ≡ d → f ≡ g → p ≡ q
    → ◌≡◌ {A = GateSettings} (record { inputs = a; outputs = c; function = f; grid = p }) (record { inputs = b; outputs = d; function = g; grid = q })
same_gate a b c d f g p q inputs outputs function grid = cc

-- these texts give one gate
pub one_gate : AreGatesOnce → (input output name points : Option Text) (g h : GateSettings) → IsGateOf input output name points g → IsGateOf input output name points h → g ≡ h
one_gate once input output name points g h are also =
    let inputs : g.inputs ≡ h.inputs = one_told once.pairs 2 input g.inputs h.inputs are.inputs also.inputs in
    let outputs : g.outputs ≡ h.outputs = one_told once.pairs 4 output g.outputs h.outputs are.outputs also.outputs in
    let named = subst (λ (l : List PairOf). IsToldFunction (length l) name g.function) inputs are.function in
    let function : g.function ≡ h.function = one_read (λ word f. IsFunctionNamed word (length h.inputs) f) (λ word. once.functions word (length h.inputs)) name g.function h.function named also.function in
    let grid : g.grid ≡ h.grid = one_read IsGridText once.grids points g.grid h.grid are.grid also.grid in
    same_gate g.inputs h.inputs g.outputs h.outputs g.function h.function g.grid h.grid inputs outputs function grid
