-- settings and a layout have one region answer
use Rattle.std.proofs.Common.{◌≡◌, ◌∙◌, sym, ap, subst, ℕ, inl, inr, List, Option, None, Some}
use Rattle.sidb_layout.specs.Layout.{Arrangement, IsLayout}
use Rattle.model_params.specs.declared.params.Params.{Params}
use Rattle.command_words.specs.declared.gate_settings.GateSettings.{GateSettings}
use Rattle.command_words.specs.declared.settings.Settings.{Settings}
use Rattle.gate_model.specs.Grids.{Axes}
use Rattle.gate_model.specs.Logic.{Logic}
use Rattle.bdl_pairs.specs.Remaining.{IsOn}
use Rattle.operational_domain.specs.Placed.{Placed}
use Rattle.region_tiles.specs.declared.tiles.Tile.{Tile}
use Rattle.region_domain.specs.Region.{AreRegionTiles}
use Rattle.run_answer.specs.declared.status.Status.{Status}
use Rattle.task_gate.specs.Answers.{IsGivenGate}
use Rattle.task_gate.specs.GateSite.{IsSiteAnswer}
use Rattle.task_gate.specs.TruthAnswer.{placed_by}
use Rattle.task_region.specs.RegionAnswer.{IsRegionAnswer, IsRegionOfGate, IsRegionOutcome, region_report}

-- each part of an answer is one
pub record PartsAreOne : Type 0 where
  pub gate : (g : GateSettings) (a b : Logic) → IsGivenGate g a → IsGivenGate g b → a ≡ b
  pub site : (gate : Logic) (layout : Arrangement) (a b : Status) (t u : List ℕ) → IsSiteAnswer gate layout a t → IsSiteAnswer gate layout b u → (a ≡ b) × (t ≡ u)
  pub not_on : (gate : Logic) (layout : Arrangement) (status : Status) (text : List ℕ) → IsOn gate layout.sites → IsSiteAnswer gate layout status text → ⊥
  pub tiles : (placed : Placed) (p : Params) (a : Axes) (depth : ℕ) (xs ys : List Tile) → IsLayout placed.whole → AreRegionTiles placed p a depth xs → AreRegionTiles placed p a depth ys → xs ≡ ys

-- two options that hold something hold the same
abbrev value_or : {X : Type 0} → X → Option X → X
value_or d None = d
value_or d (Some x) = x

same_value : {X : Type 0} (o : Option X) (a b : X) → o ≡ Some a → o ≡ Some b → a ≡ b
same_value o a b e f = ap (value_or a) (sym e ∙ f)

module _ (one : PartsAreOne) (s : Settings) (layout : Arrangement) (valid : IsLayout layout) where
  same_outcome : (gate : Logic) (axes : Axes) (a b : Status) (t u : List ℕ) → IsRegionOutcome s (placed_by s gate layout) axes a t → IsRegionOutcome s (placed_by s gate layout) axes b u → (a ≡ b) × (t ≡ u)
  same_outcome gate axes a b t u x y =
      let tiles = one.tiles (placed_by s gate layout) s.params axes s.region.refine x.1.tiles y.1.tiles valid x.1.of_grid y.1.of_grid in
      (x.0 ∙ sym y.0, x.1.prints ∙ ap (region_report s.report.json) tiles ∙ sym y.1.prints)

  same_region : (gate : Logic) (axes : Axes) (a b : Status) (t u : List ℕ) → IsRegionOfGate s gate axes layout a t → IsRegionOfGate s gate axes layout b u → (a ≡ b) × (t ≡ u)
  same_region gate axes a b t u (inl x) (inl y) = same_outcome gate axes a b t u x.1 y.1
  same_region gate axes a b t u (inl x) (inr y) = absurd (one.not_on gate layout b u x.0 y)
  same_region gate axes a b t u (inr x) (inl y) = absurd (one.not_on gate layout a t y.0 x)
  same_region gate axes a b t u (inr x) (inr y) = one.site gate layout a b t u x y

  pub one_region : (a b : Status) (t u : List ℕ) → IsRegionAnswer s layout a t → IsRegionAnswer s layout b u → (a ≡ b) × (t ≡ u)
  one_region a b t u x y =
      let gates = one.gate s.gate x.gate y.gate x.given y.given in
      let grids = same_value s.gate.grid x.axes y.axes x.points y.points in
      let moved = subst (λ g. IsRegionOfGate s g x.axes layout a t) gates x.answers in
      same_region y.gate y.axes a b t u (subst (λ (k : Axes). IsRegionOfGate s y.gate k layout a t) grids moved) y.answers
