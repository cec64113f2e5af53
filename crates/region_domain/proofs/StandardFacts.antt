-- answers of gates on a rectangle, worked by hand
use Rattle.std.proofs.Common.{◌≡◌, refl, arith}
use Rattle.gate_model.specs.Logic.{pattern_count}
use Rattle.bdl_pairs.specs.declared.verdicts.PatternVerdict.TheVariants.{Fails as PatternFails, Undecided as PatternUndecided}
use Rattle.bdl_pairs.specs.declared.cell.CellAnswer.TheVariants.{Works, Fails, Undecided, Budget, Long}
use Rattle.operational_domain.specs.declared.patterns.PatternSolved.TheVariants.{Budget as SolvedBudget, ListTooLong as SolvedTooLong}
use Rattle.operational_domain.specs.Placed.{Placed}
use Rattle.parameter_regions.specs.declared.rectangles.Rectangle.{Rectangle}
use Rattle.region_domain.specs.Patterns.{HasTileVerdict, IsTileSolved}
use Rattle.region_domain.specs.Tiles.{IsTileAnswer, WorkOnTile}
use Rattle.region_domain.proofs.FirstReason.{none_works_yet}

module _ (placed : Placed) (r : Rectangle) (two : pattern_count placed.gate ≡ 2) where
  -- a gate of two patterns that both work, and one whose second fails
  both_work : WorkOnTile placed r 2 → IsTileAnswer placed r Works
  both_work below = rw two below

  second_fails : WorkOnTile placed r 1 → HasTileVerdict placed r 1 PatternFails → IsTileAnswer placed r (Fails 1)
  second_fails below fails = record { pattern = 1; within = omega (arith, two); reason = (refl, fails); first = below }

  -- one whose first is undecided, needs too many nodes, or has a list that is too long
  first_is_undecided : HasTileVerdict placed r 0 PatternUndecided → IsTileAnswer placed r (Undecided 0)
  first_is_undecided undecided = record { pattern = 0; within = omega (arith, two); reason = (refl, undecided); first = none_works_yet placed r }

  first_is_over : IsTileSolved placed r 0 SolvedBudget → IsTileAnswer placed r (Budget 0)
  first_is_over over = record { pattern = 0; within = omega (arith, two); reason = (refl, over); first = none_works_yet placed r }

  first_is_long : IsTileSolved placed r 0 SolvedTooLong → IsTileAnswer placed r (Long 0)
  first_is_long long = record { pattern = 0; within = omega (arith, two); reason = (refl, long); first = none_works_yet placed r }
