-- what is no answer
use Rattle.std.proofs.Common.{ℕ, inl, inr, List, [], ◌∷◌, arith}
use Rattle.sidb_layout.specs.declared.site.Site.{Site}
use Rattle.sidb_layout.specs.Layout.{Arrangement}
use Rattle.command_words.specs.declared.settings.Settings.{Settings}
use Rattle.gate_model.specs.declared.pairs.PairOf.{PairOf}
use Rattle.gate_model.specs.declared.function.Function.{Function}
use Rattle.gate_model.specs.Grids.{Axes}
use Rattle.gate_model.specs.Logic.{Logic, logic_of}
use Rattle.bdl_pairs.specs.Remaining.{IsOn}
use Rattle.operational_domain.specs.Truth.{IsFirstOver}
use Rattle.run_answer.specs.declared.status.Status.TheVariants.{Answered, Budget, ListTooLong, Memory}
use Rattle.task_gate.specs.GateSite.{IsGateSite}
use Rattle.task_gate.specs.TruthAnswer.{IsTruthOfGate, asked_by}
use Rattle.task_gate.specs.DomainAnswer.{IsDomainOfGate}
use Rattle.task_gate.proofs.OneAnswer.{on_or_outside}

never_memory : (s : Settings) (gate : Logic) (layout : Arrangement) (text : List ℕ) → IsTruthOfGate s gate layout Memory text → ⊥
never_memory s gate layout text (inl (on, inl is)) = let wrong = is.0 in absurd (cc)
never_memory s gate layout text (inl (on, inr (inl over))) = let wrong = over.1.0 in absurd (cc)
never_memory s gate layout text (inl (on, inr (inr long))) = let wrong = long.1.0 in absurd (cc)
never_memory s gate layout text (inr site) = let wrong = site.answers.status_is in absurd (cc)

only_over_budget : (s : Settings) (gate : Logic) (layout : Arrangement) (text : List ℕ) → IsTruthOfGate s gate layout Budget text → IsFirstOver (asked_by s gate layout)
only_over_budget s gate layout text (inl (on, inl is)) = let wrong = is.0 in absurd (cc)
only_over_budget s gate layout text (inl (on, inr (inl over))) = over.0
only_over_budget s gate layout text (inl (on, inr (inr long))) = let wrong = long.1.0 in absurd (cc)
only_over_budget s gate layout text (inr site) = let wrong = site.answers.status_is in absurd (cc)

-- a budget and a long list are cells of a domain, and no answer
no_budget : (s : Settings) (gate : Logic) (a : Axes) (layout : Arrangement) (text : List ℕ) → IsDomainOfGate s gate a layout Budget text → ⊥
no_budget s gate a layout text (inl (on, is)) = let wrong = is.0 in absurd (cc)
no_budget s gate a layout text (inr site) = let wrong = site.answers.status_is in absurd (cc)

no_long_list : (s : Settings) (gate : Logic) (a : Axes) (layout : Arrangement) (text : List ℕ) → IsDomainOfGate s gate a layout ListTooLong text → ⊥
no_long_list s gate a layout text (inl (on, is)) = let wrong = is.0 in absurd (cc)
no_long_list s gate a layout text (inr site) = let wrong = site.answers.status_is in absurd (cc)

-- a place that is no site is answered before anything of the table
only_on_sites : (s : Settings) (gate : Logic) (layout : Arrangement) (text : List ℕ) → IsTruthOfGate s gate layout Answered text → IsOn gate layout.sites
only_on_sites s gate layout text (inl (on, is)) = on
only_on_sites s gate layout text (inr site) = let wrong = site.answers.status_is in absurd (cc)

-- no place is named where all are sites
named_for_nothing : (gate : Logic) (sites : List Site) (place : ℕ) → IsOn gate sites → IsGateSite gate sites place → ⊥
named_for_nothing = on_or_outside

abbrev pair : ℕ → ℕ → PairOf
pair a b = record { a = a; b = b }

-- a is named before b
b_before_a : (function : Function) (a b c d : Site) → IsGateSite (logic_of (pair 5 4 ∷ []) (pair 1 2 ∷ []) function) (a ∷ b ∷ c ∷ d ∷ []) 4 → ⊥
b_before_a function a b c d (inl first) = absurd (omega (arith, first.1))
b_before_a function a b c d (inr later) = absurd (omega (arith, later.0))

-- inputs are named before outputs
output_before_input : (function : Function) (a b c d : Site) → IsGateSite (logic_of (pair 0 4 ∷ []) (pair 5 2 ∷ []) function) (a ∷ b ∷ c ∷ d ∷ []) 5 → ⊥
output_before_input function a b c d (inl first) = absurd (omega (arith, first.1))
output_before_input function a b c d (inr (x, inl first)) = absurd (omega (arith, first.1))
output_before_input function a b c d (inr (x, inr later)) = absurd (omega (arith, later.0))
