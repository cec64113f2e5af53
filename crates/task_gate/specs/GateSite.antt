-- a gate whose pairs name a place that is no site
use Rattle.std.specs.Prelude.{◌≡◌, ◌⊎◌, ℕ, ◌<◌, ◌≤◌, List, [], ◌∷◌, ◌++◌, length}
use Rattle.fault_lines.specs.declared.input_fault.InputFault.TheVariants.{GateSite}
use Rattle.sidb_layout.specs.declared.site.Site.{Site}
use Rattle.sidb_layout.specs.Layout.{Arrangement}
use Rattle.gate_model.specs.declared.pairs.PairOf.{PairOf}
use Rattle.gate_model.specs.Logic.{Logic, places_in}
use Rattle.run_answer.specs.declared.status.Status.{Status}
use Rattle.run_answer.specs.Status.{IsFaultAnswer}

-- both places of a pair are below the number
pub record ArePlacesBelow (n : ℕ) (pair : PairOf) : Type 0 where
  pub a : pair.a < n
  pub b : pair.b < n

-- the first number of a list that is not below n
abbrev pub IsFirstFrom : ℕ → List ℕ → ℕ → Type 0
IsFirstFrom n [] place = ⊥
IsFirstFrom n (p ∷ places) place =
    ((n ≤ p) × (place ≡ p)) ⊎ ((p < n) × IsFirstFrom n places place)

-- the first place that a gate's pairs name and that is no site: inputs before outputs, a before b
abbrev pub IsGateSite : Logic → List Site → ℕ → Type 0
IsGateSite gate sites place =
    IsFirstFrom (length sites) (places_in gate.inputs ++ places_in gate.outputs) place

-- the line that names that place
pub record IsSiteAnswer (gate : Logic) (layout : Arrangement) (status : Status) (text : List ℕ)
    : Type 0 where
  pub place : ℕ
  pub site : IsGateSite gate layout.sites place
  pub answers : IsFaultAnswer (GateSite place) status text
