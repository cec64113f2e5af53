-- a gate on a layout has one answer
use Rattle.std.proofs.Common.{◌≡◌, ◌∙◌, sym, ap, ℕ, ◌⊎◌, inl, inr, List, [], ◌∷◌, ◌++◌, length, arith}
use Rattle.std.specs.Prelude.{All}
use Rattle.std.proofs.lemmas.List.Elements.{All-head, All-tail}
use Rattle.sidb_layout.specs.declared.site.Site.{Site}
use Rattle.sidb_layout.specs.Layout.{Arrangement, IsLayout}
use Rattle.model_params.specs.declared.params.Params.{Params}
use Rattle.command_words.specs.declared.settings.Settings.{Settings}
use Rattle.gate_model.specs.declared.pairs.PairOf.{PairOf}
use Rattle.gate_model.specs.Grids.{Axes}
use Rattle.gate_model.specs.Logic.{Logic, pattern_count, places_in}
use Rattle.bdl_pairs.specs.declared.truth.PatternAnswer.{PatternAnswer}
use Rattle.bdl_pairs.specs.declared.cell.Cell.{Cell}
use Rattle.bdl_pairs.specs.Remaining.{IsOn, IsPairOn}
use Rattle.fault_lines.specs.declared.input_fault.InputFault.TheVariants.{GateSite}
use Rattle.fault_lines.specs.FaultLines.{input_line}
use Rattle.operational_domain.specs.Patterns.{Setting}
use Rattle.operational_domain.specs.Placed.{Placed}
use Rattle.operational_domain.specs.Truth.{AreAnswers, IsFirstLong, IsFirstOver}
use Rattle.operational_domain.specs.Domain.{AreCells}
use Rattle.run_answer.specs.declared.status.Status.{Status}
use Rattle.run_answer.specs.declared.status.Status.TheVariants.{Input}
use Rattle.task_gate.specs.GateSite.{IsFirstFrom, IsGateSite, IsSiteAnswer}
use Rattle.task_gate.specs.TruthAnswer.{IsTruthOfGate, IsTruthOutcome, asked_by, placed_by, truth_report}
use Rattle.task_gate.specs.DomainAnswer.{IsDomainOfGate, IsDomainOutcome, domain_report}

-- each part of an answer is one
pub record PartsAreOne : Type 0 where
  pub table : (s : Setting) (n : ℕ) (t u : List PatternAnswer) → IsLayout s.whole → AreAnswers s n t → AreAnswers s n u → t ≡ u
  pub not_over : (s : Setting) (t : List PatternAnswer) → IsLayout s.whole → AreAnswers s (pattern_count s.gate) t → IsFirstOver s → ⊥
  pub not_long : (s : Setting) (t : List PatternAnswer) → IsLayout s.whole → AreAnswers s (pattern_count s.gate) t → IsFirstLong s → ⊥
  pub over_or_long : (s : Setting) → IsLayout s.whole → IsFirstOver s → IsFirstLong s → ⊥
  pub cells : (placed : Placed) (p : Params) (a : Axes) (xs ys : List Cell) → IsLayout placed.whole → AreCells placed p a xs → AreCells placed p a ys → xs ≡ ys

-- one place is the first that is no site
same_place : (n : ℕ) (xs : List ℕ) (p q : ℕ) → IsFirstFrom n xs p → IsFirstFrom n xs q → p ≡ q
same_place n [] p q a b = absurd a
same_place n (x ∷ xs) p q (inl a) (inl b) = a.1 ∙ sym b.1
same_place n (x ∷ xs) p q (inl a) (inr b) = absurd (omega (arith, a.0, b.0))
same_place n (x ∷ xs) p q (inr a) (inl b) = absurd (omega (arith, a.0, b.0))
same_place n (x ∷ xs) p q (inr a) (inr b) = same_place n xs p q a.1 b.1

-- and none is where all are sites
none_outside : (sites : List Site) (pairs : List PairOf) (place : ℕ) → All (IsPairOn sites) pairs → IsFirstFrom (length sites) (places_in pairs) place → ⊥
none_outside sites [] place all first = first
none_outside sites (x ∷ pairs) place all (inl first) = let here = All-head (IsPairOn sites) x pairs all in omega (arith, here.a, first.0)
none_outside sites (x ∷ pairs) place all (inr (a, inl first)) = let here = All-head (IsPairOn sites) x pairs all in omega (arith, here.b, first.0)
none_outside sites (x ∷ pairs) place all (inr (a, inr (b, first))) = none_outside sites pairs place (All-tail (IsPairOn sites) x pairs all) first

-- the first of two lists stands in one of them
in_one_of : (n : ℕ) (xs ys : List ℕ) (place : ℕ) → IsFirstFrom n (xs ++ ys) place → IsFirstFrom n xs place ⊎ IsFirstFrom n ys place
in_one_of n [] ys place first = inr first
in_one_of n (x ∷ xs) ys place (inl first) = inl (inl first)
in_one_of n (x ∷ xs) ys place (inr later) = by (in_one_of n xs ys place later.1)
  where
    by : IsFirstFrom n xs place ⊎ IsFirstFrom n ys place → IsFirstFrom n (x ∷ xs) place ⊎ IsFirstFrom n ys place
    by (inl first) = inl (inr (later.0, first))
    by (inr first) = inr first

pub on_or_outside : (gate : Logic) (sites : List Site) (place : ℕ) → IsOn gate sites → IsGateSite gate sites place → ⊥
on_or_outside gate sites place on outside = by (in_one_of (length sites) (places_in gate.inputs) (places_in gate.outputs) place outside)
  where
    by : IsFirstFrom (length sites) (places_in gate.inputs) place ⊎ IsFirstFrom (length sites) (places_in gate.outputs) place → ⊥
    by (inl first) = none_outside sites gate.inputs place on.inputs first
    by (inr first) = none_outside sites gate.outputs place on.outputs first

pub same_site : (gate : Logic) (layout : Arrangement) (a b : Status) (t u : List ℕ) → IsSiteAnswer gate layout a t → IsSiteAnswer gate layout b u → (a ≡ b) × (t ≡ u)
same_site gate layout a b t u x y =
    let place = same_place (length layout.sites) (places_in gate.inputs ++ places_in gate.outputs) x.place y.place x.site y.site in (
      x.answers.status_is ∙ ap (λ p. Input (GateSite p)) place ∙ sym y.answers.status_is,
      x.answers.prints ∙ ap (λ p. input_line (GateSite p)) place ∙ sym y.answers.prints,
    )

module _ (one : PartsAreOne) (s : Settings) (gate : Logic) (layout : Arrangement) (valid : IsLayout layout) where
  same_outcome : (a b : Status) (t u : List ℕ) → IsTruthOutcome s (placed_by s gate layout) a t → IsTruthOutcome s (placed_by s gate layout) b u → (a ≡ b) × (t ≡ u)
  same_outcome a b t u (inl x) (inl y) =
      let tables = one.table (asked_by s gate layout) (pattern_count gate) x.1.table y.1.table valid x.1.answers y.1.answers in
      (x.0 ∙ sym y.0, x.1.prints ∙ ap (truth_report s.report.json gate) tables ∙ sym y.1.prints)
  same_outcome a b t u (inl x) (inr (inl y)) = absurd (one.not_over (asked_by s gate layout) x.1.table valid x.1.answers y.0)
  same_outcome a b t u (inl x) (inr (inr y)) = absurd (one.not_long (asked_by s gate layout) x.1.table valid x.1.answers y.0)
  same_outcome a b t u (inr (inl x)) (inl y) = absurd (one.not_over (asked_by s gate layout) y.1.table valid y.1.answers x.0)
  same_outcome a b t u (inr (inr x)) (inl y) = absurd (one.not_long (asked_by s gate layout) y.1.table valid y.1.answers x.0)
  same_outcome a b t u (inr (inl x)) (inr (inl y)) = (x.1.0 ∙ sym y.1.0, x.1.1 ∙ sym y.1.1)
  same_outcome a b t u (inr (inl x)) (inr (inr y)) = absurd (one.over_or_long (asked_by s gate layout) valid x.0 y.0)
  same_outcome a b t u (inr (inr x)) (inr (inl y)) = absurd (one.over_or_long (asked_by s gate layout) valid y.0 x.0)
  same_outcome a b t u (inr (inr x)) (inr (inr y)) = (x.1.0 ∙ sym y.1.0, x.1.1 ∙ sym y.1.1)

  pub same_truth : (a b : Status) (t u : List ℕ) → IsTruthOfGate s gate layout a t → IsTruthOfGate s gate layout b u → (a ≡ b) × (t ≡ u)
  same_truth a b t u (inl x) (inl y) = same_outcome a b t u x.1 y.1
  same_truth a b t u (inl x) (inr y) = absurd (on_or_outside gate layout.sites y.place x.0 y.site)
  same_truth a b t u (inr x) (inl y) = absurd (on_or_outside gate layout.sites x.place y.0 x.site)
  same_truth a b t u (inr x) (inr y) = same_site gate layout a b t u x y

  same_domain_outcome : (axes : Axes) (a b : Status) (t u : List ℕ) → IsDomainOutcome s (placed_by s gate layout) axes a t → IsDomainOutcome s (placed_by s gate layout) axes b u → (a ≡ b) × (t ≡ u)
  same_domain_outcome axes a b t u x y =
      let cells = one.cells (placed_by s gate layout) s.params axes x.1.cells y.1.cells valid x.1.of_grid y.1.of_grid in
      (x.0 ∙ sym y.0, x.1.prints ∙ ap (domain_report s.report.json) cells ∙ sym y.1.prints)

  pub same_domain : (axes : Axes) (a b : Status) (t u : List ℕ) → IsDomainOfGate s gate axes layout a t → IsDomainOfGate s gate axes layout b u → (a ≡ b) × (t ≡ u)
  same_domain axes a b t u (inl x) (inl y) = same_domain_outcome axes a b t u x.1 y.1
  same_domain axes a b t u (inl x) (inr y) = absurd (on_or_outside gate layout.sites y.place x.0 y.site)
  same_domain axes a b t u (inr x) (inl y) = absurd (on_or_outside gate layout.sites x.place y.0 x.site)
  same_domain axes a b t u (inr x) (inr y) = same_site gate layout a b t u x y
