-- reports that differ
use Rattle.std.proofs.Common.{◌≡◌, [], ◌∷◌, length, ap, arith}
use Rattle.std.specs.Fmt.{digits}
use Rattle.sidb_units.specs.Decimal.{last_digits}
use Rattle.bdl_pairs.specs.declared.cell.CellAnswer.TheVariants.{Works, Fails}
use Rattle.region_report.specs.RegionText.{region_text}
use Rattle.region_report.proofs.StandardFacts.{tile}

-- a tile that works and one that fails are told apart
works_or_fails : region_text (tile Works ∷ []) ≡ region_text (tile (Fails 0) ∷ []) → ⊥
unfolding last_digits digits
works_or_fails is = let lengths = ap length is in omega (arith, lengths)
