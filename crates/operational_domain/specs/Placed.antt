-- a gate on a layout, and what each of its patterns leaves
use Rattle.std.specs.Prelude.{◌≡◌, ℕ, ◌<◌, List, All, length, slice_index_or}
use Rattle.sidb_layout.specs.Layout.{Arrangement}
use Rattle.model_params.specs.declared.params.Params.{Params}
use Rattle.gate_model.specs.Logic.{Logic}
use Rattle.bdl_pairs.specs.Remaining.{Remaining, IsLeft, IsPairOn}
use Rattle.operational_domain.specs.Patterns.{Setting, setting_of}

-- a gate on a layout, and the limit of nodes of each search
pub record Placed : Type 0 where
  pub whole : Arrangement
  pub gate : Logic
  pub limit : ℕ

-- these parts together
abbrev pub placed_of : Arrangement → Logic → ℕ → Placed
placed_of whole gate limit = record { whole = whole; gate = gate; limit = limit }

-- what the gate is asked at by these parameters
abbrev pub setting_at : Placed → Params → Setting
setting_at placed params = setting_of placed.whole placed.gate params placed.limit

-- what a pattern leaves, whose outputs are pairs of its sites
pub record IsShape (whole : Arrangement) (gate : Logic) (pattern : ℕ) (left : Remaining) : Type 0
  where
    pub left_by : IsLeft whole gate pattern left
    pub outputs : All (IsPairOn left.layout.sites) left.outputs

-- what each pattern below n leaves, in order
pub record AreShapes (whole : Arrangement) (gate : Logic) (n : ℕ) (shapes : List Remaining)
    : Type 0 where
  pub count : length shapes ≡ n
  pub each : (k : ℕ) → k < n
      → (left : Remaining) × (slice_index_or shapes k left ≡ left) × IsShape whole gate k left
