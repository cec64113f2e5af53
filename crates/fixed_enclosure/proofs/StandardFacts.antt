-- sums and multiples of small spans, worked by hand
use Rattle.std.proofs.Common.{ℤ, pos, negsuc, ◌≤ℤ◌, refl, arith}
use Rattle.std.proofs.lemmas.Int.{ints}
use Rattle.charge_model.specs.declared.span.Span.{Span}
use Rattle.fixed_enclosure.specs.Hull.{IsHull, IsProduct, IsSum, IsInSpan}
use Rattle.fixed_enclosure.proofs.HullLemmas.{products_hull, sums_hull}

abbrev pub span : (lo hi : ℤ) → lo ≤ℤ hi → Span
span lo hi in_order = record { lo = lo; hi = hi; in_order = in_order }

-- from 1 to 3, and from -2 to 5
abbrev pub small : Span
small = span (pos 1) (pos 3) (omega (arith, ints))

abbrev pub wide : Span
wide = span (negsuc 1) (pos 5) (omega (arith, ints))

two-within : IsInSpan small (pos 2)
two-within = record { from_lo = omega (arith, ints); to_hi = omega (arith, ints) }

small_and_wide : IsHull (IsSum small wide) (span (negsuc 0) (pos 8) (omega (arith, ints)))
small_and_wide = sums_hull small wide _ refl refl

small-doubled : IsHull (IsProduct small (pos 2)) (span (pos 2) (pos 6) (omega (arith, ints)))
small-doubled = products_hull small _ (pos 2) refl refl

-- a factor below 0 exchanges the ends
small-turned : IsHull (IsProduct small (negsuc 1)) (span (negsuc 5) (negsuc 1) (omega (arith, ints)))
small-turned = products_hull small _ (negsuc 1) refl refl
