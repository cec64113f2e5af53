-- whether pairs and a function make a gate
use Rattle.std.proofs.Common.{◌≡◌, ℕ, zero, suc, ◌<◌, ◌≤◌, List, ◌++◌, ◌⊎◌, inl, inr, length, subst, arith}
use Rattle.std.specs.Prelude.{slice_index}
use Rattle.std.proofs.lemmas.Bool.{cases_eq}
use Rattle.gate_model.specs.declared.pairs.PairOf.{PairOf}
use Rattle.gate_model.specs.Logic.{AllDiffer, HaveDistinctPlaces, IsLogic, Logic, StandsBefore, places_in}
use Rattle.gate_model.proofs.GateLemmas.{DifferBelow, all_differ_below, not_all_differ}
use Rattle.gate_model.proofs.Decided.{IsDecided, at_most_decided, both_decided}

-- one of the first n numbers is this one
abbrev IsAmong : List ℕ → ℕ → ℕ → Type 0
IsAmong places n v = (i : ℕ) × (i < n) × (slice_index places i ≡ v)

-- whether one of the first n numbers is this one
among_decided : (places : List ℕ) (v n : ℕ) → IsDecided (IsAmong places n v)
among_decided places v zero = inr (λ is. omega (arith, is.1))
among_decided places v (suc n) = by (among_decided places v n) (cases_eq (slice_index places n) v)
  where
    by : IsDecided (IsAmong places n v) → IsDecided (slice_index places n ≡ v) → IsDecided (IsAmong places (suc n) v)
    by (inl (i, lt, same)) last = inl (i, omega (arith, lt), same)
    by (inr never) (inl same) = inl (n, omega arith, same)
    by (inr never) (inr other) = inr (λ is. none is.0 is.1 is.2 (cases_eq is.0 n))
      where
        none : (i : ℕ) → i < suc n → slice_index places i ≡ v → IsDecided (i ≡ n) → ⊥
        none i lt same (inl last) = other (subst (λ (k : ℕ). slice_index places k ≡ v) last same)
        none i lt same (inr before) = never (i, omega (arith, lt, before), same)

-- one of the first n numbers stands twice, or none does
abbrev IsTwice : List ℕ → ℕ → Type 0
IsTwice places n = (j : ℕ) × (j < n) × StandsBefore places j

twice_or_not : (places : List ℕ) (n : ℕ) → IsTwice places n ⊎ DifferBelow places n
twice_or_not places zero = inr (λ j lt before. omega (arith, lt))
twice_or_not places (suc n) = by (twice_or_not places n) (among_decided places (slice_index places n) n)
  where
    by : IsTwice places n ⊎ DifferBelow places n → IsDecided (StandsBefore places n) → IsTwice places (suc n) ⊎ DifferBelow places (suc n)
    by (inl (j, lt, before)) last = inl (j, omega (arith, lt), before)
    by (inr below) (inl before) = inl (n, omega arith, before)
    by (inr below) (inr never) = inr (λ j lt before. none j lt before (cases_eq j n))
      where
        none : (j : ℕ) → j < suc n → StandsBefore places j → IsDecided (j ≡ n) → ⊥
        none j lt before (inl last) = never (subst (λ (k : ℕ). StandsBefore places k) last before)
        none j lt before (inr other) = below j (omega (arith, lt, other)) before

-- whether no number stands twice
differ_decided : (places : List ℕ) → IsDecided (AllDiffer places)
differ_decided places = by (twice_or_not places (length places))
  where
    by : IsTwice places (length places) ⊎ DifferBelow places (length places) → IsDecided (AllDiffer places)
    by (inl (j, lt, before)) = inr (not_all_differ places j lt before)
    by (inr below) = inl (all_differ_below places below)

-- whether all places of the inputs and of the outputs are distinct
pub distinct_decided : (inputs outputs : List PairOf) → IsDecided (HaveDistinctPlaces inputs outputs)
distinct_decided inputs outputs = differ_decided (places_in inputs ++ places_in outputs)

-- as many pairs as a gate has
abbrev HasFitting : Logic → Type 0
HasFitting gate = ((1 ≤ length gate.inputs) × (length gate.inputs ≤ 2)) × ((1 ≤ length gate.outputs) × (length gate.outputs ≤ 4))

-- what else a gate has
abbrev HasRest : Logic → Type 0
HasRest gate = (gate.function.inputs ≡ length gate.inputs) × HaveDistinctPlaces gate.inputs gate.outputs

-- whether pairs and a function make a gate
pub gate_decided : (gate : Logic) → IsDecided (IsLogic gate)
gate_decided gate =
    by
    (both_decided (both_decided (at_most_decided 1 (length gate.inputs)) (at_most_decided (length gate.inputs) 2))
    (both_decided (at_most_decided 1 (length gate.outputs)) (at_most_decided (length gate.outputs) 4)))
    (both_decided (cases_eq gate.function.inputs (length gate.inputs)) (distinct_decided gate.inputs gate.outputs))
  where
    by : IsDecided (HasFitting gate) → IsDecided (HasRest gate) → IsDecided (IsLogic gate)
    by (inl counts) (inl rest) = inl (record {
      some_input = counts.0.0;
      few_inputs = counts.0.1;
      some_output = counts.1.0;
      few_outputs = counts.1.1;
      of_inputs = rest.0;
      distinct = rest.1;
    })
    by (inr never) rest = inr (λ is. never ((is.some_input, is.few_inputs), (is.some_output, is.few_outputs)))
    by (inl counts) (inr never) = inr (λ is. never (is.of_inputs, is.distinct))
