-- what a gate answers on a rectangle of parameters
use Rattle.std.specs.Prelude.{◌≡◌, ℕ, ◌<◌, Option, Some, None}
use Rattle.bdl_pairs.specs.declared.verdicts.PatternVerdict.TheVariants.{Works as PatternWorks, Fails as PatternFails, Undecided as PatternUndecided}
use Rattle.bdl_pairs.specs.declared.cell.CellAnswer.{CellAnswer}
use Rattle.bdl_pairs.specs.declared.cell.CellAnswer.TheVariants.{Works, Fails, Undecided, Budget, Long}
use Rattle.gate_model.specs.Logic.{pattern_count}
use Rattle.operational_domain.specs.declared.patterns.PatternSolved.TheVariants.{Budget as SolvedBudget, ListTooLong as SolvedTooLong}
use Rattle.operational_domain.specs.Placed.{Placed}
use Rattle.parameter_regions.specs.declared.rectangles.Rectangle.{Rectangle}
use Rattle.region_domain.specs.Patterns.{HasTileVerdict, IsTileSolved}

-- every pattern below this one works on the rectangle
abbrev pub WorkOnTile : Placed → Rectangle → ℕ → Type 0
WorkOnTile placed r n = (k : ℕ) → k < n → HasTileVerdict placed r k PatternWorks

-- the pattern that an answer names does not work there, for the reason that it gives
abbrev pub IsTileReason : Placed → Rectangle → CellAnswer → ℕ → Type 0
IsTileReason placed r Works k = ⊥
IsTileReason placed r (Fails j) k = (j ≡ k) × HasTileVerdict placed r k PatternFails
IsTileReason placed r (Undecided j) k = (j ≡ k) × HasTileVerdict placed r k PatternUndecided
IsTileReason placed r (Budget j) k = (j ≡ k) × IsTileSolved placed r k SolvedBudget
IsTileReason placed r (Long j) k = (j ≡ k) × IsTileSolved placed r k SolvedTooLong

-- what follows of a pattern: no reason where it works
abbrev pub IsTileOutcome : Placed → Rectangle → ℕ → Option CellAnswer → Type 0
IsTileOutcome placed r k None = HasTileVerdict placed r k PatternWorks
IsTileOutcome placed r k (Some reason) = IsTileReason placed r reason k

-- the first pattern that does not work there, and why
pub record IsFirstTileReason (placed : Placed) (r : Rectangle) (answer : CellAnswer) : Type 0 where
  pub pattern : ℕ
  pub within : pattern < pattern_count placed.gate
  pub reason : IsTileReason placed r answer pattern
  pub first : WorkOnTile placed r pattern

-- a gate works on a rectangle where every pattern does;
-- else the first that does not is named, with the reason
abbrev pub IsTileAnswer : Placed → Rectangle → CellAnswer → Type 0
IsTileAnswer placed r Works = WorkOnTile placed r (pattern_count placed.gate)
IsTileAnswer placed r (Fails j) = IsFirstTileReason placed r (Fails j)
IsTileAnswer placed r (Undecided j) = IsFirstTileReason placed r (Undecided j)
IsTileAnswer placed r (Budget j) = IsFirstTileReason placed r (Budget j)
IsTileAnswer placed r (Long j) = IsFirstTileReason placed r (Long j)
