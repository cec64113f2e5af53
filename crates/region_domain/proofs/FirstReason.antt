-- the first pattern that does not work on a rectangle makes the answer
use Rattle.std.proofs.Common.{◌≡◌, ◌⊎◌, inl, inr, ℕ, ◌+◌, ◌<◌, ◌≤◌, arith, subst}
use Rattle.std.proofs.lemmas.Bool.{cases_lt}
use Rattle.bdl_pairs.specs.declared.verdicts.PatternVerdict.TheVariants.{Works as PatternWorks}
use Rattle.bdl_pairs.specs.declared.cell.CellAnswer.{CellAnswer}
use Rattle.bdl_pairs.specs.declared.cell.CellAnswer.TheVariants.{Works, Fails, Undecided, Budget, Long}
use Rattle.gate_model.specs.Logic.{pattern_count}
use Rattle.operational_domain.specs.Placed.{Placed}
use Rattle.parameter_regions.specs.declared.rectangles.Rectangle.{Rectangle}
use Rattle.region_domain.specs.Patterns.{HasTileVerdict}
use Rattle.region_domain.specs.Tiles.{IsTileAnswer, IsTileReason, WorkOnTile}

-- by the reason
pub reason_answers : (placed : Placed) (r : Rectangle) (answer : CellAnswer) (k : ℕ) → k < pattern_count placed.gate → IsTileReason placed r answer k → WorkOnTile placed r k → IsTileAnswer placed r answer
reason_answers placed r Works k within reason first = absurd reason
reason_answers placed r (Fails j) k within reason first = record { pattern = k; within = within; reason = reason; first = first }
reason_answers placed r (Undecided j) k within reason first = record { pattern = k; within = within; reason = reason; first = first }
reason_answers placed r (Budget j) k within reason first = record { pattern = k; within = within; reason = reason; first = first }
reason_answers placed r (Long j) k within reason first = record { pattern = k; within = within; reason = reason; first = first }

-- one more pattern works
pub one_more : (placed : Placed) (r : Rectangle) (n : ℕ) → WorkOnTile placed r n → HasTileVerdict placed r n PatternWorks → WorkOnTile placed r (n + 1)
one_more placed r n below here k lt = by (cases_lt k n)
  where
    by : (k < n) ⊎ (n ≤ k) → HasTileVerdict placed r k PatternWorks
    by (inl less) = below k less
    by (inr more) = let same : n ≡ k = omega (arith, lt, more) in subst (λ k. HasTileVerdict placed r k PatternWorks) same here

-- no pattern is below 0
pub none_works_yet : (placed : Placed) (r : Rectangle) → WorkOnTile placed r 0
none_works_yet placed r k lt = absurd (omega (arith, lt))
