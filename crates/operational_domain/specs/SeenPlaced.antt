-- placed gates as the definitions see them
use Rattle.std.specs.Prelude.{◌≤◌}
use Rattle.sidb_units.specs.declared.TheConstants.{MAX_NODES}
use Rattle.gate_model.specs.Logic.{pattern_count}
use Rattle.operational_domain.specs.Placed.{AreShapes, Placed, placed_of}
use Rattle.operational_domain.specs.declared.placed.PlacedGate.TheInside.{Inside}

-- the placed gate of the fields
abbrev pub seen_placed : Inside → Placed
seen_placed s = placed_of s.layout s.gate s.limit

-- what the fields keep
pub record IsKeptPlaced (s : Inside) : Type 0 where
  pub some : 1 ≤ s.limit
  pub few : s.limit ≤ MAX_NODES
  pub shapes : AreShapes s.layout s.gate (pattern_count s.gate) s.shapes.items
