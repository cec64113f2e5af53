-- the interval of a point against the ends at two corners
use Rattle.std.proofs.Common.{ℕ, suc, ◌+◌, ◌*◌, ◌^◌, ◌<◌, ◌≤◌, nat_lt, if◌then◌else◌, arith}
use Rattle.std.proofs.Math.Nat.{mul-le-mul, mul-le-mul_left, mul-le-mul_right}
use Rattle.root_exp.specs.Series.{closed_divisor, closed_sum, divisor_of, series_sum, Fraction}
use Rattle.model_params.specs.declared.params.Params.{Params}
use Rattle.screened_coulomb.specs.Potential.{bottom_of, closed_low, coulomb_of, eps_of, high_at_order, lam_of, low_at_order, top_of}
use Rattle.parameter_regions.specs.Points.{IsNoMore, Point, closed_low_at, high_at, low_at, top_at}
use Rattle.parameter_regions.proofs.ArgumentLemmas.{closed_sums_rise, sums_rise}

-- the argument of the series falls as the screening length grows
more_screening : (x parts lam lam' w : ℕ) → lam ≤ lam' * parts → x * (w * lam) ≤ x * parts * (w * lam')
more_screening x parts lam lam' w le = omega (arith, mul-le-mul_left (x * w) le)

less_screening : (x parts lam lam' w : ℕ) → lam' * parts ≤ lam → x * parts * (w * lam') ≤ x * (w * lam)
less_screening x parts lam lam' w le = omega (arith, mul-le-mul_left (x * w) le)

high_step : (c parts w d d' eps eps' a s s' : ℕ) → eps' * parts ≤ eps → s' * d ≤ s * d' → c * parts * w * d * (eps' * a * s') ≤ c * w * d' * (eps * a * s)
high_step c parts w d d' eps eps' a s s' le sum = omega (arith, mul-le-mul_left (c * w * a) (mul-le-mul le sum))

-- the upper end at a point is at most that at a corner with no more permittivity and no less screening length
pub high_within : (p : Params) (point : Point) (k a : ℕ) → eps_of p * point.parts ≤ point.eps → point.lam ≤ lam_of p * point.parts
    → IsNoMore (high_at (coulomb_of p) point k a) (high_at_order p k a)
high_within p point k a low high =
    high_step (coulomb_of p) point.parts (2 ^ k) (divisor_of (bottom_of point.lam k) k) (divisor_of (bottom_of (lam_of p) k) k) point.eps (eps_of p) a
    (series_sum (top_at point a) (bottom_of point.lam k) k) (series_sum (top_of a) (bottom_of (lam_of p) k) k)
    low (sums_rise (top_of a) (bottom_of (lam_of p) k) (top_at point a) (bottom_of point.lam k) k (more_screening (top_of a) point.parts point.lam (lam_of p) (2 ^ k) high))

low_step : (c parts w d d' eps eps' a s s' : ℕ) → eps ≤ eps' * parts → s * d' ≤ s' * d → c * w * d' * (eps * a * s) ≤ c * parts * w * d * (eps' * a * s')
low_step c parts w d d' eps eps' a s s' le sum = omega (arith, mul-le-mul_left (c * w * a) (mul-le-mul le sum))

-- the lower end at a corner with no less permittivity and no more screening length is at most that at a point,
-- where the closed sum of the corner is there
closed_within : (c eps lam : ℕ) (point : Point) (k a : ℕ) → point.eps ≤ eps * point.parts → lam * point.parts ≤ point.lam → top_of (a + 1) < suc (suc k) * bottom_of lam k
    → IsNoMore (closed_low c eps lam k a) (closed_low_at c point k a)
closed_within c eps lam point k a high low near =
    let q = bottom_of point.lam k in
    let m = bottom_of lam k in
    let p = top_at point (a + 1) in
    low_step c point.parts (2 ^ k) (closed_divisor p q k) (closed_divisor (top_of (a + 1)) m k) point.eps eps (a + 1) (closed_sum p q k) (closed_sum (top_of (a + 1)) m k) high
    (closed_sums_rise p q (top_of (a + 1)) m k (less_screening (top_of (a + 1)) point.parts point.lam lam (2 ^ k) low) near)

-- where the closed sum of the corner is there, so is that of the point
near_too : (x parts w m q : ℕ) → 0 < parts → m * parts ≤ q → x < w * m → x * parts < w * q
near_too x parts w m q some le near = omega (arith, mul-le-mul_left w le, mul-le-mul_right parts near)

chosen : (a b d e : ℕ) (x y : Fraction) → (a < b → d < e) → (a < b → IsNoMore x y)
    → IsNoMore (if nat_lt a b then x else record { top = 0; bottom = 1 }) (if nat_lt d e then y else record { top = 0; bottom = 1 })
chosen a b d e x y there is = grind (arith, there, is)

pub low_within : (p : Params) (point : Point) (k a : ℕ) → 0 < point.parts → point.eps ≤ eps_of p * point.parts → lam_of p * point.parts ≤ point.lam
    → IsNoMore (low_at_order p k a) (low_at (coulomb_of p) point k a)
low_within p point k a some high low =
    chosen (top_of (a + 1)) (suc (suc k) * bottom_of (lam_of p) k) (top_at point (a + 1)) (suc (suc k) * bottom_of point.lam k)
    (closed_low (coulomb_of p) (eps_of p) (lam_of p) k a) (closed_low_at (coulomb_of p) point k a)
    (near_too (top_of (a + 1)) point.parts (suc (suc k)) (bottom_of (lam_of p) k) (bottom_of point.lam k) some (omega (arith, mul-le-mul_left (2 ^ k) low)))
    (closed_within (coulomb_of p) (eps_of p) (lam_of p) point k a high low)
