-- what is no answer of a gate on a rectangle
use Rattle.std.proofs.Common.{◌≡◌, ℕ, arith}
use Rattle.gate_model.specs.Logic.{pattern_count}
use Rattle.bdl_pairs.specs.declared.cell.CellAnswer.TheVariants.{Works, Fails}
use Rattle.operational_domain.specs.Placed.{Placed}
use Rattle.parameter_regions.specs.declared.rectangles.Rectangle.{Rectangle}
use Rattle.region_domain.specs.Tiles.{IsTileAnswer, IsTileReason}

module _ (placed : Placed) (r : Rectangle) where
  -- a reason names its own pattern, and a gate that works has none
  other_pattern : IsTileReason placed r (Fails 0) 1 → ⊥
  other_pattern is = let wrong : 0 ≡ 1 = is.0 in omega (arith, wrong)

  no_reason : (k : ℕ) → IsTileReason placed r Works k → ⊥
  no_reason k is = is

  -- a gate of two patterns has no third that fails
  no_third : pattern_count placed.gate ≡ 2 → IsTileAnswer placed r (Fails 2) → ⊥
  no_third two is =
      let named : 2 ≡ is.pattern = is.reason.0 in
      omega (arith, is.within, two, named)
