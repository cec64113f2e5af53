-- each distance has a potential at a point, and it lies within a span that holds the distance at two corners
use Rattle.std.proofs.Common.{◌≡◌, ℕ, zero, suc, ◌+◌, ◌*◌, ◌^◌, ◌<◌, ◌≤◌, ℤ, pos, negsuc, ◌*ℤ◌, ◌≤ℤ◌, nat_lt, if◌then◌else◌, unsigned_abs, sym, ap, subst, arith}
use Rattle.std.proofs.lemmas.Int.{ints}
use Rattle.std.proofs.Math.Nat.{mul-le-mul, mul-le-mul_left, mul-le-mul_right, le_of_mul-le-mul_left, one-le-pow}
use Rattle.root_exp.specs.Root.{IsRoot}
use Rattle.root_exp.specs.Series.{closed_divisor, closed_sum, divisor_of, rest_of, series_sum, Fraction}
use Rattle.model_params.specs.declared.params.Params.{Params}
use Rattle.screened_coulomb.specs.Potential.{HoldsDistance, IsAtLeast, IsAtMost, bottom_of, closed_low, coulomb_of, eps_of, high_at_order, lam_of, low_at_order, top_of}
use Rattle.parameter_regions.specs.declared.rectangles.Rectangle.{Rectangle}
use Rattle.parameter_regions.specs.Points.{IsNoMore, IsPotentialAt, Point, closed_low_at, high_at, low_at, scaled, top_at}
use Rattle.parameter_regions.specs.Rectangles.{IsInRectangle}
use Rattle.parameter_regions.proofs.ArgumentLemmas.{sums_rise}
use Rattle.parameter_regions.proofs.IntervalLemmas.{high_within, low_within}

cancel : (u a b : ℕ) → 0 < u → u * a ≤ u * b → a ≤ b
cancel u a b positive h = le_of_mul-le-mul_left h positive

-- no sum and no divisor is 0
product_some : (a b : ℕ) → 0 < a → 0 < b → 0 < a * b
product_some a b some also = omega (arith, mul-le-mul some also)

divisor_some : (q k : ℕ) → 0 < q → 0 < divisor_of q k
unfolding divisor_of
divisor_some q zero some = omega arith
divisor_some q (suc k) some = product_some (divisor_of q k) (suc k * q) (divisor_some q k some) (product_some (suc k) q (omega arith) some)

series_some : (p q k : ℕ) → 0 < q → 0 < series_sum p q k
unfolding series_sum
series_some p q zero some = omega arith
series_some p q (suc k) some = let before = product_some (series_sum p q k) (suc k * q) (series_some p q k some) (product_some (suc k) q (omega arith) some) in omega (arith, before)

closed_some : (p q k : ℕ) → 0 < q → p < suc (suc k) * q → 0 < closed_sum p q k
closed_some p q k some near =
    let sum = product_some (series_sum p q k) (suc k * q) (series_some p q k some) (product_some (suc k) q (omega arith) some) in
    let all = product_some (series_sum p q k * (suc k * q)) (rest_of p q k) sum (omega (arith, near)) in omega (arith, all)

scaled_screening : (k lam : ℕ) → 0 < lam → 0 < bottom_of lam k
scaled_screening k lam some = product_some (2 ^ k) lam (one-le-pow k 2 (omega arith)) some

chosen_bottom : (a b : ℕ) (x : Fraction) → (a < b → 0 < x.bottom) → 0 < (if nat_lt a b then x else record { top = 0; bottom = 1 }).bottom
chosen_bottom a b x is = grind (arith, is)

-- no lower and no upper end has the bottom 0
low_bottom : (c : ℕ) (point : Point) (k a : ℕ) → 0 < point.eps → 0 < point.lam → 0 < (low_at c point k a).bottom
low_bottom c point k a eps lam =
    chosen_bottom (top_at point (a + 1)) (suc (suc k) * bottom_of point.lam k) (closed_low_at c point k a)
    (λ near. product_some (point.eps * (a + 1)) (closed_sum (top_at point (a + 1)) (bottom_of point.lam k) k) (product_some point.eps (a + 1) eps (omega arith)) (closed_some (top_at point (a + 1)) (bottom_of point.lam k) k (scaled_screening k point.lam lam) near))

high_bottom : (c : ℕ) (point : Point) (k a : ℕ) → 0 < point.eps → 0 < point.lam → 0 < a → 0 < (high_at c point k a).bottom
high_bottom c point k a eps lam some =
    product_some (point.eps * a) (series_sum (top_at point a) (bottom_of point.lam k) k) (product_some point.eps a eps some) (series_some (top_at point a) (bottom_of point.lam k) k (scaled_screening k point.lam lam))

corner_low_bottom : (p : Params) (k a : ℕ) → 0 < (low_at_order p k a).bottom
corner_low_bottom p k a =
    let eps : 0 < eps_of p = omega (arith, ints, p.in_range.eps_within.from) in
    let lam : 0 < lam_of p = omega (arith, ints, p.in_range.lam_within.from) in
    chosen_bottom (top_of (a + 1)) (suc (suc k) * bottom_of (lam_of p) k) (closed_low (coulomb_of p) (eps_of p) (lam_of p) k a)
    (λ near. product_some (eps_of p * (a + 1)) (closed_sum (top_of (a + 1)) (bottom_of (lam_of p) k) k) (product_some (eps_of p) (a + 1) eps (omega arith)) (closed_some (top_of (a + 1)) (bottom_of (lam_of p) k) k (scaled_screening k (lam_of p) lam) near))

corner_high_bottom : (p : Params) (k a : ℕ) → 0 < a → 0 < (high_at_order p k a).bottom
corner_high_bottom p k a some =
    let eps : 0 < eps_of p = omega (arith, ints, p.in_range.eps_within.from) in
    let lam : 0 < lam_of p = omega (arith, ints, p.in_range.lam_within.from) in
    product_some (eps_of p * a) (series_sum (top_of a) (bottom_of (lam_of p) k) k) (product_some (eps_of p) a eps some) (series_some (top_of a) (bottom_of (lam_of p) k) k (scaled_screening k (lam_of p) lam))

-- the permittivity and the screening length of a point of a rectangle are not 0
pub eps_some : (r : Rectangle) (point : Point) → IsInRectangle r point → 0 < point.eps
eps_some r point inside =
    let least : 0 < eps_of r.strongest = omega (arith, ints, r.strongest.in_range.eps_within.from) in
    omega (arith, product_some (eps_of r.strongest) point.parts least inside.some, inside.eps_from)

pub lam_some : (r : Rectangle) (point : Point) → IsInRectangle r point → 0 < point.lam
lam_some r point inside =
    let least : 0 < lam_of r.weakest = omega (arith, ints, r.weakest.in_range.lam_within.from) in
    omega (arith, product_some (lam_of r.weakest) point.parts least inside.some, inside.lam_from)

-- a root is not 0
root_some : (d k a : ℕ) → 0 < d → IsRoot (d * 4 ^ k) a → 0 < a
root_some d k zero some of_root = absurd (omega (arith, product_some d (4 ^ k) some (one-le-pow k 4 (omega arith)), of_root.greatest))
root_some d k (suc a) some of_root = omega arith

-- the lower end at a point is at most the upper one
closed_step : (c parts w D D' eps a S C T : ℕ) → 0 < D → S * D ≤ T * D → T * D' ≤ C * D → c * parts * w * D' * (eps * a * S) ≤ c * parts * w * D * (eps * (a + 1) * C)
closed_step c parts w D D' eps a S C T some rise closed =
    let both : S * D' ≤ C * D = cancel D (S * D') (C * D) some (omega (arith, mul-le-mul_left D' rise, mul-le-mul_left D closed)) in
    omega (arith, mul-le-mul_left (c * parts * w * eps * a) both)

chosen_order : (a b : ℕ) (x y : Fraction) → (a < b → IsNoMore x y) → IsNoMore (if nat_lt a b then x else record { top = 0; bottom = 1 }) y
chosen_order a b x y is = grind (arith, is)

low_below_high : ((p q k : ℕ) → p < suc (suc k) * q → series_sum p q k * closed_divisor p q k ≤ closed_sum p q k * divisor_of q k)
    → (c : ℕ) (point : Point) (k a : ℕ) → 0 < point.lam → IsNoMore (low_at c point k a) (high_at c point k a)
low_below_high greater c point k a lam =
    let q = bottom_of point.lam k in
    let p = top_at point (a + 1) in
    chosen_order p (suc (suc k) * q) (closed_low_at c point k a) (high_at c point k a)
    (λ near. closed_step c point.parts (2 ^ k) (divisor_of q k) (closed_divisor p q k) point.eps a (series_sum (top_at point a) q k) (closed_sum p q k) (series_sum p q k) (divisor_some q k (scaled_screening k point.lam lam))
    (sums_rise (top_at point a) q p q k (mul-le-mul_right q (more_root a point.parts))) (greater p q k near))
  where
    more_root : (a parts : ℕ) → 10 * a * parts ≤ 10 * (a + 1) * parts
    more_root a parts = omega arith

-- the upper end lies between both
at_least : (low high : Fraction) → IsNoMore low high → IsAtLeast (pos high.top) (scaled high.bottom low)
at_least low high le = omega (arith, ints, le)

at_most : (high : Fraction) → IsAtMost (pos high.top) (scaled high.bottom high)
at_most high = omega (arith, ints)

-- a squared distance has a potential at a point, at the order 96
pub some_potential : ((n : ℕ) → (a : ℕ) × IsRoot n a)
    → ((p q k : ℕ) → p < suc (suc k) * q → series_sum p q k * closed_divisor p q k ≤ closed_sum p q k * divisor_of q k)
    → (c : ℕ) (point : Point) (d : ℕ) → 0 < d → 0 < point.eps → 0 < point.lam → (scale : ℕ) × (z : ℕ) × (1 ≤ scale) × IsPotentialAt c point d scale (pos z)
some_potential root_of greater c point d some eps lam =
    let root = root_of (d * 4 ^ 96) in
    let high = high_at c point 96 root.0 in
    let low = low_at c point 96 root.0 in (
      high.bottom,
      high.top,
      high_bottom c point 96 root.0 eps lam (root_some d 96 root.0 some root.1),
      record {
        order = 96;
        root = root.0;
        enough = omega arith;
        of_root = root.1;
        lies = record {
          above = at_least low high (low_below_high greater c point 96 root.0 lam);
          below = at_most high;
        };
      },
    )

-- a number at least a lower end, where that is at least what is at least x
above_low : (x s z : ℕ) (f g : Fraction) → 0 < f.bottom → 0 < g.bottom → x * f.bottom ≤ f.top → IsNoMore f g → s * g.top ≤ z * g.bottom → s * x ≤ z
above_low x s z f g some also low le number =
    cancel (f.bottom * g.bottom) (s * x) z (product_some f.bottom g.bottom some also)
    (omega (arith, mul-le-mul_left (s * g.bottom) low, mul-le-mul_left s le, mul-le-mul_left f.bottom number))

number_above : (x s : ℕ) (z : ℤ) (f g : Fraction) → 0 < f.bottom → 0 < g.bottom → IsAtMost (pos x) f → IsNoMore f g → IsAtLeast z (scaled s g) → (pos s *ℤ pos x) ≤ℤ z
number_above x s (pos z) f g some also low le number =
    let above = above_low x s z f g some also (omega (arith, ints, low)) le (omega (arith, ints, number)) in omega (arith, ints, above)
number_above x s (negsuc z) f g some also low le number = absurd (omega (arith, ints, number, product_some (suc z) g.bottom (omega arith) also))

below_high : (x s z : ℕ) (f g : Fraction) → 0 < f.bottom → 0 < g.bottom → f.top ≤ x * f.bottom → IsNoMore g f → z * g.bottom ≤ s * g.top → z ≤ s * x
below_high x s z f g some also high le number =
    cancel (f.bottom * g.bottom) z (s * x) (product_some f.bottom g.bottom some also)
    (omega (arith, mul-le-mul_left (s * g.bottom) high, mul-le-mul_left s le, mul-le-mul_left f.bottom number))

number_below : (x s : ℕ) (z : ℤ) (f g : Fraction) → 0 < f.bottom → 0 < g.bottom → IsAtLeast (pos x) f → IsNoMore g f → IsAtMost z (scaled s g) → z ≤ℤ (pos s *ℤ pos x)
number_below x s (pos z) f g some also high le number =
    let below = below_high x s z f g some also (omega (arith, ints, high)) le (omega (arith, ints, number)) in omega (arith, ints, below)
number_below x s (negsuc z) f g some also high le number = omega (arith, ints)

-- a potential at a point of a rectangle is at least a lower end that holds the distance at the weakest corner
pub potential_above : (r : Rectangle) (point : Point) (d x hi scale : ℕ) (z : ℤ) → IsInRectangle r point → HoldsDistance r.weakest d (pos x) (pos hi) → IsPotentialAt (coulomb_of r.weakest) point d scale z
    → (pos scale *ℤ pos x) ≤ℤ z
potential_above r point d x hi scale z inside holds number =
    let k = number.order in
    let a = number.root in
    number_above x scale z (low_at_order r.weakest k a) (low_at (coulomb_of r.weakest) point k a) (corner_low_bottom r.weakest k a)
    (low_bottom (coulomb_of r.weakest) point k a (eps_some r point inside) (lam_some r point inside))
    (holds k a number.enough number.of_root).low (low_within r.weakest point k a inside.some inside.eps_to inside.lam_from) number.lies.above

-- the upper end at a point is at most that at the strongest corner
pub high_at_corner : (r : Rectangle) (point : Point) (k a : ℕ) → IsInRectangle r point → IsNoMore (high_at (coulomb_of r.weakest) point k a) (high_at_order r.strongest k a)
high_at_corner r point k a inside =
    let same : coulomb_of r.weakest ≡ coulomb_of r.strongest = ap (λ (z : ℤ). unsigned_abs z * 10 ^ 12) r.are_corners.coulomb in
    subst (λ (c : ℕ). IsNoMore (high_at c point k a) (high_at_order r.strongest k a)) (sym same) (high_within r.strongest point k a inside.eps_from inside.lam_to)

-- and at most an upper end that holds it at the strongest one
pub potential_below : (r : Rectangle) (point : Point) (d lo x scale : ℕ) (z : ℤ) → 0 < d → IsInRectangle r point → HoldsDistance r.strongest d (pos lo) (pos x) → IsPotentialAt (coulomb_of r.weakest) point d scale z
    → z ≤ℤ (pos scale *ℤ pos x)
potential_below r point d lo x scale z some inside holds number =
    let k = number.order in
    let a = number.root in
    let root = root_some d k a some number.of_root in
    number_below x scale z (high_at_order r.strongest k a) (high_at (coulomb_of r.weakest) point k a) (corner_high_bottom r.strongest k a root)
    (high_bottom (coulomb_of r.weakest) point k a (eps_some r point inside) (lam_some r point inside) root)
    (holds k a number.enough number.of_root).high (high_at_corner r point k a inside) number.lies.below
