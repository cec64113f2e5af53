-- each gate on a layout has an answer
use Rattle.std.proofs.Common.{refl, ℕ, ◌<◌, ◌≤◌, ◌⊎◌, inl, inr, List, [], ◌∷◌, length}
use Rattle.std.specs.Prelude.{All}
use Rattle.std.proofs.lemmas.Bool.{cases_lt}
use Rattle.std.proofs.lemmas.List.Elements.{All-nil, All-cons}
use Rattle.sidb_layout.specs.declared.site.Site.{Site}
use Rattle.sidb_layout.specs.Layout.{Arrangement, IsLayout}
use Rattle.model_params.specs.declared.params.Params.{Params}
use Rattle.command_words.specs.declared.settings.Settings.{Settings}
use Rattle.gate_model.specs.declared.pairs.PairOf.{PairOf}
use Rattle.gate_model.specs.Grids.{AreAxes, Axes}
use Rattle.gate_model.specs.Logic.{IsLogic, Logic, pattern_count, places_in}
use Rattle.bdl_pairs.specs.declared.truth.PatternAnswer.{PatternAnswer}
use Rattle.bdl_pairs.specs.declared.cell.Cell.{Cell}
use Rattle.bdl_pairs.specs.Remaining.{IsOn}
use Rattle.fault_lines.specs.declared.input_fault.InputFault.TheVariants.{GateSite}
use Rattle.fault_lines.specs.FaultLines.{IsNamed, budget_line, input_line, list_too_long_line}
use Rattle.operational_domain.specs.Patterns.{Setting}
use Rattle.operational_domain.specs.Placed.{Placed}
use Rattle.operational_domain.specs.Truth.{AreAnswers, IsFirstLong, IsFirstOver}
use Rattle.operational_domain.specs.Domain.{AreCells}
use Rattle.run_answer.specs.declared.status.Status.{Status}
use Rattle.run_answer.specs.declared.status.Status.TheVariants.{Answered, Budget, Input, ListTooLong}
use Rattle.task_gate.specs.GateSite.{ArePlacesBelow, IsFirstFrom, IsGateSite, IsSiteAnswer}
use Rattle.task_gate.specs.TruthAnswer.{IsTruthOfGate, asked_by, placed_by, truth_report}
use Rattle.task_gate.specs.DomainAnswer.{IsDomainOfGate, domain_report}
use Rattle.task_gate.proofs.Places.{behind, in_front, on_sites}

-- what each gate on a layout has
pub record PartsAreThere : Type 0 where
  pub table : (s : Setting) → IsLayout s.whole → IsLogic s.gate → IsOn s.gate s.whole.sites
      → ((t : List PatternAnswer) × AreAnswers s (pattern_count s.gate) t) ⊎ (IsFirstOver s ⊎ IsFirstLong s)
  pub cells : (placed : Placed) (p : Params) (a : Axes) → IsLayout placed.whole → IsLogic placed.gate → IsOn placed.gate placed.whole.sites → AreAxes a
      → (cells : List Cell) × AreCells placed p a cells

-- all places of pairs are sites, or there is a first that is none
sites_or_first : (n : ℕ) (pairs : List PairOf) → All (ArePlacesBelow n) pairs ⊎ ((place : ℕ) × IsFirstFrom n (places_in pairs) place)
sites_or_first n [] = inl (All-nil (ArePlacesBelow n))
sites_or_first n (pair ∷ pairs) = by (cases_lt pair.a n) (cases_lt pair.b n) (sites_or_first n pairs)
  where
    by : (pair.a < n) ⊎ (n ≤ pair.a) → (pair.b < n) ⊎ (n ≤ pair.b) → All (ArePlacesBelow n) pairs ⊎ ((place : ℕ) × IsFirstFrom n (places_in pairs) place)
        → All (ArePlacesBelow n) (pair ∷ pairs) ⊎ ((place : ℕ) × IsFirstFrom n (places_in (pair ∷ pairs)) place)
    by (inr outside) b later = inr (pair.a, inl (outside, refl))
    by (inl a) (inr outside) later = inr (pair.b, inr (a, inl (outside, refl)))
    by (inl a) (inl b) (inl all) = inl (All-cons (ArePlacesBelow n) pair pairs (record { a = a; b = b }) all)
    by (inl a) (inl b) (inr first) = inr (first.0, inr (a, inr (b, first.1)))

pub on_or_site : (gate : Logic) (sites : List Site) → IsOn gate sites ⊎ ((place : ℕ) × IsGateSite gate sites place)
on_or_site gate sites = by (sites_or_first (length sites) gate.inputs) (sites_or_first (length sites) gate.outputs)
  where
    by : All (ArePlacesBelow (length sites)) gate.inputs ⊎ ((place : ℕ) × IsFirstFrom (length sites) (places_in gate.inputs) place)
        → All (ArePlacesBelow (length sites)) gate.outputs ⊎ ((place : ℕ) × IsFirstFrom (length sites) (places_in gate.outputs) place)
        → IsOn gate sites ⊎ ((place : ℕ) × IsGateSite gate sites place)
    by (inr first) outputs = inr (first.0, in_front (length sites) (places_in gate.inputs) (places_in gate.outputs) first.0 first.1)
    by (inl inputs) (inr first) = inr (first.0, behind (length sites) gate.inputs (places_in gate.outputs) first.0 inputs first.1)
    by (inl inputs) (inl outputs) =
        inl (record { inputs = on_sites sites (length sites) refl gate.inputs inputs; outputs = on_sites sites (length sites) refl gate.outputs outputs })

-- a place that is no site is no want of memory
pub site_named : (place : ℕ) → IsNamed (GateSite place)
site_named place = record { layout = λ is. absurd (cc is); certificate = λ is. absurd (cc is); certificate_table = λ is. absurd (cc is); table = λ is. absurd (cc is) }

site_answer : (gate : Logic) (layout : Arrangement) (place : ℕ) → IsGateSite gate layout.sites place → IsSiteAnswer gate layout (Input (GateSite place)) (input_line (GateSite place))
site_answer gate layout place site = record { place = place; site = site; answers = record { named = site_named place; status_is = refl; prints = refl } }

-- all places are sites, or some line names one that is none
pub on_or_answer : (gate : Logic) (layout : Arrangement) → IsOn gate layout.sites ⊎ ((status : Status) × (text : List ℕ) × IsSiteAnswer gate layout status text)
on_or_answer gate layout = by (on_or_site gate layout.sites)
  where
    by : IsOn gate layout.sites ⊎ ((place : ℕ) × IsGateSite gate layout.sites place) → IsOn gate layout.sites ⊎ ((status : Status) × (text : List ℕ) × IsSiteAnswer gate layout status text)
    by (inl on) = inl on
    by (inr (place, site)) = inr (Input (GateSite place), input_line (GateSite place), site_answer gate layout place site)

-- some status and text are the answer
abbrev pub HasTruth : Settings → Logic → Arrangement → Type 0
HasTruth s gate layout = (status : Status) × (text : List ℕ) × IsTruthOfGate s gate layout status text

abbrev pub HasDomain : Settings → Logic → Axes → Arrangement → Type 0
HasDomain s gate a layout = (status : Status) × (text : List ℕ) × IsDomainOfGate s gate a layout status text

module _ (parts : PartsAreThere) (s : Settings) (gate : Logic) (layout : Arrangement) (valid : IsLayout layout) (logic : IsLogic gate) where
  truth_on : IsOn gate layout.sites → HasTruth s gate layout
  truth_on on = by (parts.table (asked_by s gate layout) valid logic on)
    where
      by : ((t : List PatternAnswer) × AreAnswers (asked_by s gate layout) (pattern_count gate) t) ⊎ (IsFirstOver (asked_by s gate layout) ⊎ IsFirstLong (asked_by s gate layout)) → HasTruth s gate layout
      by (inl (t, are)) = (Answered, truth_report s.report.json gate t, inl (on, inl (refl, record { table = t; answers = are; prints = refl })))
      by (inr (inl over)) = (Budget, budget_line s.search.limit, inl (on, inr (inl (over, (refl, refl)))))
      by (inr (inr long)) = (ListTooLong, list_too_long_line, inl (on, inr (inr (long, (refl, refl)))))

  pub some_truth : HasTruth s gate layout
  some_truth = by (on_or_site gate layout.sites)
    where
      by : IsOn gate layout.sites ⊎ ((place : ℕ) × IsGateSite gate layout.sites place) → HasTruth s gate layout
      by (inl on) = truth_on on
      by (inr (place, site)) = (Input (GateSite place), input_line (GateSite place), inr (site_answer gate layout place site))

  pub some_domain : (a : Axes) → AreAxes a → HasDomain s gate a layout
  some_domain a are = by (on_or_site gate layout.sites)
    where
      by : IsOn gate layout.sites ⊎ ((place : ℕ) × IsGateSite gate layout.sites place) → HasDomain s gate a layout
      by (inl on) =
          let cells = parts.cells (placed_by s gate layout) s.params a valid logic on are in
          (Answered, domain_report s.report.json cells.0, inl (on, (refl, record { cells = cells.0; of_grid = cells.1; prints = refl })))
      by (inr (place, site)) = (Input (GateSite place), input_line (GateSite place), inr (site_answer gate layout place site))
