-- what the options of a gate give is something, or nothing
use Rattle.std.proofs.Common.{◌≡◌, refl, subst, ℕ, List, [], ◌⊎◌, inl, inr, Option, None, Some, length}
use Rattle.clap.specs.Walk.{Text}
use Rattle.gate_model.specs.declared.function.Function.{Function}
use Rattle.gate_model.specs.declared.pairs.PairOf.{PairOf}
use Rattle.gate_model.specs.Functions.{IsFunctionNamed}
use Rattle.gate_model.specs.GridTexts.{IsGridText}
use Rattle.gate_model.specs.Logic.{HaveDistinctPlaces, IsLogic, Logic, logic_of}
use Rattle.gate_model.specs.Pairs.{ArePairs}
use Rattle.command_words.specs.declared.gate_settings.GateSettings.{GateSettings}
use Rattle.command_words.specs.Gates.{AreToldPairs, HasGate, IsGateOf, IsToldFunction}
use Rattle.command_words.specs.Options.{IsReadWhereGiven}
use Rattle.command_words.proofs.Decided.{HasSomeOrNone}
use Rattle.command_words.proofs.Readings.{some_read}
use Rattle.command_words.proofs.GateLemmas.{ArePairsOnce, no_function, not_distinct}

-- each text is a list of pairs, a name of a function and a grid, or is none; places are distinct
-- or not, and pairs and a function make a gate or not
pub record AreGateLaws : Type 0 where
  pub one_pairs : ArePairsOnce
  pub some_pairs : (most : ℕ) (text : List ℕ) → HasSomeOrNone (ArePairs most text)
  pub some_functions : (name : List ℕ) (inputs : ℕ) → HasSomeOrNone (IsFunctionNamed name inputs)
  pub some_grids : (text : List ℕ) → HasSomeOrNone (IsGridText text)
  pub distinct : (inputs outputs : List PairOf) → HaveDistinctPlaces inputs outputs ⊎ (HaveDistinctPlaces inputs outputs → ⊥)
  pub gates : (gate : Logic) → IsLogic gate ⊎ (IsLogic gate → ⊥)

module _ (laws : AreGateLaws) where
  -- an option gives some pairs, or gives none
  some_told : (most : ℕ) (told : Option Text) → HasSomeOrNone (AreToldPairs most told)
  some_told most None = inl ([], refl)
  some_told most (Some text) = laws.some_pairs most text

  -- with these pairs, texts give some gate, or give none
  some_with : (input output name points : Option Text) (inputs outputs : List PairOf) → AreToldPairs 2 input inputs → AreToldPairs 4 output outputs → HasSomeOrNone (IsGateOf input output name points)
  some_with input output name points inputs outputs are also =
      by
      (some_read (λ word f. IsFunctionNamed word (length inputs) f) (λ word. laws.some_functions word (length inputs)) name)
      (some_read IsGridText laws.some_grids points)
      (laws.distinct inputs outputs)
    where
      by : HasSomeOrNone (IsToldFunction (length inputs) name) → HasSomeOrNone (IsReadWhereGiven IsGridText points) → HaveDistinctPlaces inputs outputs ⊎ (HaveDistinctPlaces inputs outputs → ⊥) → HasSomeOrNone (IsGateOf input output name points)
      by (inl (f, is)) (inl (a, on)) (inl distinct) = inl (
        record { inputs = inputs; outputs = outputs; function = f; grid = a },
        record { inputs = are; outputs = also; function = is; grid = on; distinct = distinct },
      )
      by (inr never) grid distinct = inr (λ g is. no_function laws.one_pairs input output name points g is inputs are never)
      by (inl function) (inr never) distinct = inr (λ g is. never g.grid is.grid)
      by (inl function) (inl grid) (inr never) = inr (λ g is. not_distinct laws.one_pairs input output name points g is inputs are outputs also never)

  -- texts give some gate, or give none
  pub some_gate : (input output name points : Option Text) → HasSomeOrNone (IsGateOf input output name points)
  some_gate input output name points = by (some_told 2 input) (some_told 4 output)
    where
      by : HasSomeOrNone (AreToldPairs 2 input) → HasSomeOrNone (AreToldPairs 4 output) → HasSomeOrNone (IsGateOf input output name points)
      by (inl (inputs, are)) (inl (outputs, also)) = some_with input output name points inputs outputs are also
      by (inr never) second = inr (λ g is. never g.inputs is.inputs)
      by (inl first) (inr never) = inr (λ g is. never g.outputs is.outputs)

  -- the pairs and the function make a gate, or make none
  pub gate_decided : (g : GateSettings) → HasGate g ⊎ (HasGate g → ⊥)
  gate_decided g = by g.function refl
    where
      with_function : (f : Function) → g.function ≡ Some f → IsLogic (logic_of g.inputs g.outputs f) ⊎ (IsLogic (logic_of g.inputs g.outputs f) → ⊥) → HasGate g ⊎ (HasGate g → ⊥)
      with_function f given (inl is) = inl (record { computed = f; given = given; is_gate = is })
      with_function f given (inr never) = inr (λ has.
          let same : has.computed ≡ f = cc (given, has.given) in
          never (subst (λ (k : Function). IsLogic (logic_of g.inputs g.outputs k)) same has.is_gate))

      by : (told : Option Function) → g.function ≡ told → HasGate g ⊎ (HasGate g → ⊥)
      by None none = inr (λ has. cc (none, has.given))
      by (Some f) given = with_function f given (laws.gates (logic_of g.inputs g.outputs f))
