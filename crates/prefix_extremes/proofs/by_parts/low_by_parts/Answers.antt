use Rattle.std.proofs.Common.{FitsSigned, w64, unsigned_abs, ◌≤◌, ◌*◌, ◌^◌, arith, sym}
use Rattle.std.proofs.lemmas.Int.{ints, to_z-of_z, fits_signed_from_abs}
use Rattle.prefix_extremes.proofs.Splits.{low_split}
use Rattle.prefix_extremes.proofs.by_parts.low_by_parts.Goals as goal

pub returns-clause-value : goal.returns-clause-value
returns-clause-value c =
    let size : unsigned_abs c.added-2.result.value ≤ 192 * (88 * 10 ^ 13) = omega (arith, ints) in
    let fits : FitsSigned w64 c.added-2.result.value = fits_signed_from_abs w64 _ (omega arith) in
    simp to_z-of_z (rw (c.added-2.ensures, c.added.ensures, c.requires.first, c.requires.others, c.requires.pairs)
    (sym (low_split c.args._problem.now c.args._prefix.now c.requires.short)))

pub returns-clause-small : goal.returns-clause-small
returns-clause-small c =
    let size : unsigned_abs c.added-2.result.value ≤ 192 * (88 * 10 ^ 13) = omega (arith, ints) in
    let fits : FitsSigned w64 c.added-2.result.value = fits_signed_from_abs w64 _ (omega arith) in
    simp to_z-of_z size
