use Rattle.std.proofs.Common.{◌≡◌, ◌+◌, ◌*◌, ◌^◌, ◌<◌, ◌≤◌, FitsSigned, w64, refl, arith, ◌∙◌}
use Rattle.std.proofs.lemmas.Int.{to_z-of_z, to_z_pos, fits_signed_from_abs}
use Rattle.sidb_layout.specs.Lattice.{squared_distance, x_of, y_of, distance_along}
use Rattle.sidb_layout.proofs.Positions.{gap_read, gap_within, square_within}
use Rattle.sidb_layout.proofs.geometry.squared_distance_on.Goals as goal

-- the code's gaps are those of the positions, and their squares are small
record Gaps (c : goal.After-abs_diff-y_gap) : Type 0 where
  x : c.abs_diff-x_gap.result ≡ distance_along (x_of c.args.lattice.now c.args.a) (x_of c.args.lattice.now c.args.b)
  y : c.abs_diff-y_gap.result ≡ distance_along (y_of c.args.lattice.now c.args.a) (y_of c.args.lattice.now c.args.b)
  x_small : c.abs_diff-x_gap.result * c.abs_diff-x_gap.result ≤ 64012800640000
  y_small : c.abs_diff-y_gap.result * c.abs_diff-y_gap.result ≤ 64012800640000

gaps : (c : goal.After-abs_diff-y_gap) → Gaps c
gaps c =
    let v = c.args.lattice.now in
    let fits_ax : FitsSigned w64 v.ax = fits_signed_from_abs w64 v.ax (omega (arith, v.x_steps)) in
    let fits_bx : FitsSigned w64 v.bx = fits_signed_from_abs w64 v.bx (omega (arith, v.x_steps)) in
    let fits_cx : FitsSigned w64 v.cx = fits_signed_from_abs w64 v.cx (omega (arith, v.x_offset)) in
    let fits_ay : FitsSigned w64 v.ay = fits_signed_from_abs w64 v.ay (omega (arith, v.y_steps)) in
    let fits_by : FitsSigned w64 v.by = fits_signed_from_abs w64 v.by (omega (arith, v.y_steps)) in
    let fits_cy : FitsSigned w64 v.cy = fits_signed_from_abs w64 v.cy (omega (arith, v.y_offset)) in
    let xa = simp to_z-of_z at c.position.ensures.value in
    let xb = simp to_z-of_z at c.position-2.ensures.value in
    let ya = simp to_z-of_z at c.position-3.ensures.value in
    let yb = simp to_z-of_z at c.position-4.ensures.value in
    let x_gap = c.abs_diff-x_gap.ensures ∙ gap_read c.position.result c.position-2.result c.position.ensures.within c.position-2.ensures.within in
    let y_gap = c.abs_diff-y_gap.ensures ∙ gap_read c.position-3.result c.position-4.result c.position-3.ensures.within c.position-4.ensures.within in
    record {
      x = rw (xa, xb) at x_gap;
      y = rw (ya, yb) at y_gap;
      x_small = square_within _ (gap_within c.position.result c.position-2.result _ x_gap c.position.ensures.within c.position-2.ensures.within);
      y_small = square_within _ (gap_within c.position-3.result c.position-4.result _ y_gap c.position-3.ensures.within c.position-4.ensures.within);
    }

pub overflow_mul-result : goal.overflow_mul-result
overflow_mul-result c = omega (arith, (gaps c).x_small)

pub overflow_mul-result-2 : goal.overflow_mul-result-2
overflow_mul-result-2 c = omega (arith, (gaps c).y_small)

pub overflow_add-result : goal.overflow_add-result
overflow_add-result c = omega (arith, (gaps c).x_small, (gaps c).y_small)

pub overflow_cast-result : goal.overflow_cast-result
overflow_cast-result c = fits_signed_from_abs w64 _ (omega (arith, (gaps c).x_small, (gaps c).y_small))

pub returns-clause-value : goal.returns-clause-value
unfolding squared_distance
returns-clause-value c =
    let known = gaps c in
    let small : c.abs_diff-x_gap.result * c.abs_diff-x_gap.result + c.abs_diff-y_gap.result * c.abs_diff-y_gap.result < 2 ^ 63 =
    omega (arith, known.x_small, known.y_small) in
    to_z_pos w64 _ small ∙ rw (known.x, known.y) refl

pub returns-clause-within : goal.returns-clause-within
unfolding squared_distance
returns-clause-within c =
    let known = gaps c in
    rw (← known.x, ← known.y) (omega (arith, known.x_small, known.y_small))
