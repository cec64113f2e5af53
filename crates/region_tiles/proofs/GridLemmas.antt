-- the sides of a rectangle and of a grid: their ranges, and how they follow each other
use Rattle.std.proofs.Common.{◌≡◌, ◌∙◌, ℕ, ℤ, zero, suc, pos, negsuc, ◌+◌, ◌-◌, ◌*◌, ◌+ℤ◌, ◌*ℤ◌, ◌≤◌, ◌≤ℤ◌, [], ◌∷◌, Bool, true, false, map, unsigned_abs, refl, sym, ap, subst, arith}
use Rattle.std.specs.Prelude.{All}
use Rattle.std.specs.List.{range_with_len}
use Rattle.std.proofs.Math.Nat.{mul-le-mul_left}
use Rattle.std.proofs.lemmas.Int.{ints}
use Rattle.std.proofs.lemmas.List.FromFn.{map-range_with_len_more}
use Rattle.std.proofs.lemmas.List.Elements.{All-append, All-cons, All-nil}
use Rattle.model_params.specs.declared.quantity.Quantity.{Quantity}
use Rattle.model_params.specs.Quantities.{IsInRangeOf, permittivity, screening_length}
use Rattle.gate_model.specs.declared.grid.Axis.{Axis}
use Rattle.gate_model.specs.Grids.{IsAxis, point_at}
use Rattle.parameter_regions.specs.declared.rectangles.Rectangle.{Rectangle}
use Rattle.region_tiles.specs.declared.sides.Side.{Side}
use Rattle.region_tiles.specs.Sides.{IsSideWithin, between, halves_of, is_cut, middle_of, whole_side, step_at, steps_of}
use Rattle.region_tiles.specs.Rectangles.{eps_side, lam_side}
use Rattle.region_tiles.proofs.SideLemmas.{AreSteps, more_steps, one_step}

-- numbers that are no less than 0
pub natural : (z : ℤ) → pos 0 ≤ℤ z → z ≡ pos (unsigned_abs z)
natural (pos n) from = refl
natural (negsuc n) from = absurd (omega (arith, ints, from))

size_grows : (y z : ℤ) → pos 0 ≤ℤ y → y ≤ℤ z → unsigned_abs y ≤ unsigned_abs z
size_grows (pos m) (pos n) from le = omega (arith, ints, le)
size_grows (pos m) (negsuc n) from le = absurd (omega (arith, ints, le))
size_grows (negsuc m) z from le = absurd (omega (arith, ints, from))

-- the side between two numbers in range
side_within : (q : Quantity) (y z : ℤ) → pos 0 ≤ℤ q.least → IsInRangeOf q y → IsInRangeOf q z → y ≤ℤ z → IsSideWithin q (between (unsigned_abs y) (unsigned_abs z))
side_within q y z least at_y at_z le =
    let from : pos 0 ≤ℤ y = omega (arith, ints, least, at_y.from) in
    let to : pos 0 ≤ℤ z = omega (arith, ints, least, at_z.from) in
    record {
      from = subst (λ (x : ℤ). q.least ≤ℤ x) (natural y from) at_y.from;
      order = size_grows y z from le;
      to = subst (λ (x : ℤ). x ≤ℤ q.greatest) (natural z to) at_z.to;
    }

pub eps_within : (r : Rectangle) → IsSideWithin permittivity (eps_side r)
eps_within r = side_within permittivity r.strongest.eps r.weakest.eps (omega (arith, ints)) r.strongest.in_range.eps_within r.weakest.in_range.eps_within r.are_corners.eps

pub lam_within : (r : Rectangle) → IsSideWithin screening_length (lam_side r)
lam_within r = side_within screening_length r.weakest.lam r.strongest.lam (omega (arith, ints)) r.weakest.in_range.lam_within r.strongest.in_range.lam_within r.are_corners.lam

-- the halves of a side in range
pub halves_within : (q : Quantity) (s : Side) → IsSideWithin q s → All (IsSideWithin q) (halves_of s)
halves_within q s is = by (is_cut s) refl
  where
    low : IsSideWithin q (between s.from (middle_of s))
    low = record { from = is.from; order = omega (arith, is.order); to = omega (arith, ints, is.order, is.to) }

    high : IsSideWithin q (between (middle_of s) s.to)
    high = record { from = omega (arith, ints, is.order, is.from); order = omega (arith, is.order); to = is.to }

    by : (b : Bool) → is_cut s ≡ b → All (IsSideWithin q) (halves_of s)
    by true cut = rw cut (All-cons (IsSideWithin q) (between s.from (middle_of s)) (between (middle_of s) s.to ∷ []) low (All-cons (IsSideWithin q) (between (middle_of s) s.to) [] high (All-nil (IsSideWithin q))))
    by false cut = rw cut (All-cons (IsSideWithin q) s [] is (All-nil (IsSideWithin q)))

-- a direction of numbers that are no less than 0
abbrev number_at : ℕ → ℕ → ℕ → ℕ
number_at start step k = start + step * k

pub point_number : (start step k : ℕ) → unsigned_abs (pos start +ℤ (pos step *ℤ pos k)) ≡ start + step * k
point_number start step k = refl

module _ (axis : Axis) (start : pos 0 ≤ℤ axis.start) (step : pos 0 ≤ℤ axis.step) where
  points_are : (k : ℕ) → unsigned_abs (point_at axis k) ≡ unsigned_abs axis.start + unsigned_abs axis.step * k
  points_are k =
      let s = natural axis.start start in
      let t = natural axis.step step in
      ap (λ (z : ℤ). unsigned_abs (z +ℤ (axis.step *ℤ pos k))) s ∙ ap (λ (z : ℤ). unsigned_abs (pos (unsigned_abs axis.start) +ℤ (z *ℤ pos k))) t ∙ point_number (unsigned_abs axis.start) (unsigned_abs axis.step) k

  point_is : (k : ℕ) → point_at axis k ≡ pos (unsigned_abs axis.start + unsigned_abs axis.step * k)
  point_is k =
      let s = natural axis.start start in
      let t = natural axis.step step in
      ap (λ (z : ℤ). z +ℤ (axis.step *ℤ pos k)) s ∙ ap (λ (z : ℤ). pos (unsigned_abs axis.start) +ℤ (z *ℤ pos k)) t

  points_rise : (j k : ℕ) → j ≤ k → unsigned_abs (point_at axis j) ≤ unsigned_abs (point_at axis k)
  points_rise j k le = let grows = mul-le-mul_left (unsigned_abs axis.step) le in omega (arith, points_are j, points_are k, grows)

  -- the first sides of a direction
  steps_to : (n : ℕ) → AreSteps (between (unsigned_abs (point_at axis 0)) (unsigned_abs (point_at axis (n + 1)))) (map (step_at axis) (range_with_len 0 (n + 1)))
  steps_to zero = one_step (step_at axis 0) (points_rise 0 1 (omega arith))
  steps_to (suc n) =
      let a = unsigned_abs (point_at axis 0) in
      let m = unsigned_abs (point_at axis (n + 1)) in
      let b = unsigned_abs (point_at axis (n + 1 + 1)) in
      let both = more_steps a m b (map (step_at axis) (range_with_len 0 (n + 1))) (points_rise (n + 1) (n + 1 + 1) (omega arith)) (steps_to n) in
      let listed = map-range_with_len_more (step_at axis) 0 (n + 1) (n + 1) (omega arith) in
      let next : n + 1 ≡ suc n = omega arith in
      subst (λ (k : ℕ). AreSteps (between a (unsigned_abs (point_at axis (k + 1)))) (map (step_at axis) (range_with_len 0 (k + 1)))) next (subst (AreSteps (between a b)) (sym listed) both)

  pub steps_are_steps : 1 ≤ axis.count → AreSteps (whole_side axis) (steps_of axis)
  steps_are_steps some =
      let same : axis.count - 1 + 1 ≡ axis.count = omega (arith, some) in
      subst (λ (n : ℕ). AreSteps (between (unsigned_abs (point_at axis 0)) (unsigned_abs (point_at axis n))) (map (step_at axis) (range_with_len 0 n))) same (steps_to (axis.count - 1))

  -- points between the ends are in range
  between_ends : (q : Quantity) (j k : ℕ) → j ≤ k → IsInRangeOf q (point_at axis 0) → IsInRangeOf q (point_at axis k) → IsInRangeOf q (point_at axis j)
  between_ends q j k le first last =
      let grows = mul-le-mul_left (unsigned_abs axis.step) le in
      let at_0 = point_is 0 in
      let at_j = point_is j in
      let at_k = point_is k in
      record { from = omega (arith, ints, first.from, at_0, at_j); to = omega (arith, ints, last.to, at_j, at_k, grows) }

  points_rise_too : (j k : ℕ) → j ≤ k → point_at axis j ≤ℤ point_at axis k
  points_rise_too j k le =
      let grows = mul-le-mul_left (unsigned_abs axis.step) le in
      let at_j = point_is j in
      let at_k = point_is k in omega (arith, ints, at_j, at_k, grows)

  pub steps_within : (q : Quantity) → pos 0 ≤ℤ q.least → IsInRangeOf q (point_at axis 0) → IsInRangeOf q (point_at axis axis.count) → All (IsSideWithin q) (steps_of axis)
  steps_within q least first last = upto axis.count (omega arith)
    where
      upto : (n : ℕ) → n ≤ axis.count → All (IsSideWithin q) (map (step_at axis) (range_with_len 0 n))
      upto zero le = All-nil (IsSideWithin q)
      upto (suc n) le =
          let one : IsSideWithin q (step_at axis n) = side_within q (point_at axis n) (point_at axis (n + 1)) least
          (between_ends q n axis.count (omega (arith, le)) first last) (between_ends q (n + 1) axis.count (omega (arith, le)) first last) (points_rise_too n (n + 1) (omega arith)) in
          let both = All-append (IsSideWithin q) (map (step_at axis) (range_with_len 0 n)) (step_at axis n ∷ []) (upto n (omega (arith, le))) (All-cons (IsSideWithin q) (step_at axis n) [] one (All-nil (IsSideWithin q))) in
          let listed = map-range_with_len_more (step_at axis) 0 n n (omega arith) in
          let next : n + 1 ≡ suc n = omega arith in
          subst (λ (k : ℕ). All (IsSideWithin q) (map (step_at axis) (range_with_len 0 k))) next (subst (All (IsSideWithin q)) (sym listed) both)

  pub span_within : (q : Quantity) → pos 0 ≤ℤ q.least → IsInRangeOf q (point_at axis 0) → IsInRangeOf q (point_at axis axis.count) → IsSideWithin q (whole_side axis)
  span_within q least first last = side_within q (point_at axis 0) (point_at axis axis.count) least first last (points_rise_too 0 axis.count (omega arith))

-- the first point of an axis, and its start, are no less than 0
pub first_within : (q : Quantity) (axis : Axis) → IsAxis q axis → IsInRangeOf q (point_at axis 0)
first_within q axis is = is.inside 0 (omega (arith, is.some))

first_is : (start step : ℤ) → start +ℤ (step *ℤ pos 0) ≡ start
first_is start step = omega (arith, ints)

pub start_above : (q : Quantity) (axis : Axis) → pos 0 ≤ℤ q.least → IsAxis q axis → pos 0 ≤ℤ axis.start
start_above q axis least is =
    let first = subst (λ (z : ℤ). q.least ≤ℤ z) (first_is axis.start axis.step) (first_within q axis is).from in
    omega (arith, ints, least, first)

pub step_above : (q : Quantity) (axis : Axis) → IsAxis q axis → pos 0 ≤ℤ axis.step
step_above q axis is = omega (arith, ints, is.rising)
