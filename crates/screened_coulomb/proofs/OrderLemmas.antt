-- from the root of 40 bits to the root of every order, and from the rounded sums to the interval
use Rattle.std.proofs.Common.{◌≡◌, ◌∙◌, ℕ, zero, suc, ◌+◌, ◌-◌, ◌*◌, ◌^◌, ◌<◌, ◌≤◌, sym, ap, subst, arith, inl, inr, add-zero, add-suc}
use Rattle.std.proofs.Math.Nat.{pow-suc, mul-le-mul_left, mul-le-mul_right, mul-le-mul, le_of_mul-le-mul_left, le_trans}
use Rattle.std.proofs.lemmas.Nat.{pow_pos, pow-add, mul-pow}
use Rattle.std.proofs.lemmas.Bool.{cases_lt}
use Rattle.root_exp.specs.declared.TheConstants.{UNIT}
use Rattle.root_exp.specs.Root.{IsRoot}
use Rattle.root_exp.specs.Series.{closed_divisor, closed_sum, divisor_of, series_sum}

pub cancel : (u a b : ℕ) → 0 < u → u * a ≤ u * b → a ≤ b
cancel u a b positive h = le_of_mul-le-mul_left h positive

pub square_lt : (x y : ℕ) → x * x < y * y → x < y
square_lt x y h =
    elim (cases_lt x y) [
      | inl less ↦ less
      | inr more ↦ absurd (omega (arith, mul-le-mul more more))
    ]

-- the roots a of 40 bits and b of more, where w is 2 to the number of further bits,
-- and power is 2 to the number of bits of b
pub record AreRoots (power a b : ℕ) : Type 0 where
  pub w : ℕ
  pub some : 0 < w
  pub two : power ≡ 2 ^ 40 * w
  pub low : a * w ≤ b
  pub high : b + 1 ≤ (a + 1) * w

more_bits : (j : ℕ) → 4 ^ (40 + j) ≡ 4 ^ 40 * (2 ^ j * 2 ^ j)
more_bits j = pow-four 40 j ∙ ap (λ (x : ℕ). 4 ^ 40 * x) (mul-pow 2 2 j) where
  pow-four : (i j : ℕ) → 4 ^ (i + j) ≡ 4 ^ i * 4 ^ j
  pow-four i zero = rw add-zero (omega arith)
  pow-four i (suc j) = rw (add-suc, pow-suc 4 (i + j), pow-suc 4 j, pow-four i j) (omega arith)

root_low : (d w f a b : ℕ) → a * a ≤ d * f → d * (f * (w * w)) < (b + 1) * (b + 1) → a * w ≤ b
root_low d w f a b root greatest =
    let s : (a * w) * (a * w) < (b + 1) * (b + 1) = omega (arith, mul-le-mul_right (w * w) root) in
    let l = square_lt (a * w) (b + 1) s in omega arith

root_high : (d w f a b : ℕ) → 0 < w → d * f < (a + 1) * (a + 1) → b * b ≤ d * (f * (w * w)) → b + 1 ≤ (a + 1) * w
root_high d w f a b positive greatest root =
    let step : d * f + 1 ≤ (a + 1) * (a + 1) = omega arith in
    let ww : 1 * 1 ≤ w * w = mul-le-mul positive positive in
    let s : b * b < ((a + 1) * w) * ((a + 1) * w) = omega (arith, mul-le-mul_right (w * w) step) in
    let l = square_lt b ((a + 1) * w) s in omega arith

roots_at : (d a b j : ℕ) → IsRoot (d * 4 ^ 40) a → IsRoot (d * 4 ^ (40 + j)) b → AreRoots (2 ^ (40 + j)) a b
roots_at d a b j of_a of_b =
    let four = more_bits j in
    let greatest : d * (4 ^ 40 * (2 ^ j * 2 ^ j)) < (b + 1) * (b + 1) = rw four at of_b.greatest in
    let root : b * b ≤ d * (4 ^ 40 * (2 ^ j * 2 ^ j)) = rw four at of_b.root in
    record {
      w = 2 ^ j;
      some = pow_pos j;
      two = pow-add 2 40 j;
      low = root_low d (2 ^ j) (4 ^ 40) a b of_a.root greatest;
      high = root_high d (2 ^ j) (4 ^ 40) a b (pow_pos j) of_a.greatest root;
    }

pub roots : (d k a b : ℕ) → 96 ≤ k → IsRoot (d * 4 ^ 40) a → IsRoot (d * 4 ^ k) b → AreRoots (2 ^ k) a b
roots d k a b from of_a of_b =
    let is : 40 + (k - 40) ≡ k = omega arith in
    let shifted = subst (λ (n : ℕ). IsRoot (d * 4 ^ n) b) (sym is) of_b in
    subst (λ (n : ℕ). AreRoots (2 ^ n) a b) is (roots_at d a b (k - 40) of_a shifted)

-- the argument of an order is on the right side of the rounded one
argument_low : (x lam a b w : ℕ) → x * lam ≤ 10 * a * 2 ^ 20 → a * w ≤ b → x * (2 ^ 40 * w * lam) ≤ 10 * b * UNIT
argument_low x lam a b w rounded root = omega (arith, mul-le-mul_left (2 ^ 40 * w) rounded, mul-le-mul_left (10 * 2 ^ 60) root)

argument_high : (x lam a b w : ℕ) → 10 * (a + 1) * 2 ^ 20 ≤ x * lam → b + 1 ≤ (a + 1) * w → 10 * (b + 1) * UNIT ≤ x * (2 ^ 40 * w * lam)
argument_high x lam a b w rounded root = omega (arith, mul-le-mul_left (2 ^ 40 * w) rounded, mul-le-mul_left (10 * 2 ^ 60) root)

above_end : (charge eps hi quotient down first a b w D S : ℕ) → 0 < first → charge * 2 ^ 63 ≤ quotient * (eps * a) → quotient * first ≤ hi * (down * 2 ^ 23) → a * w ≤ b → down * D ≤ first * S
    → charge * (2 ^ 40 * w) * D ≤ hi * (eps * b * S)
above_end charge eps hi quotient down first a b w D S positive whole end root sum =
    cancel (2 ^ 23 * first) (charge * (2 ^ 40 * w) * D) (hi * (eps * b * S)) (omega arith)
    (omega (arith, mul-le-mul_right (first * (w * D)) whole, mul-le-mul_right (eps * a * (w * D)) end, mul-le-mul_right (2 ^ 23 * (hi * eps * (a * w))) sum, mul-le-mul_left (2 ^ 23 * (hi * eps * (first * S))) root))

below_end : (charge eps lo quotient up first a b w D C : ℕ) → 0 < first → quotient * (eps * (a + 1)) ≤ charge * 2 ^ 63 → lo * (up * 2 ^ 23) ≤ quotient * first → b + 1 ≤ (a + 1) * w → first * C ≤ up * D
    → lo * (eps * (b + 1) * C) ≤ charge * (2 ^ 40 * w) * D
below_end charge eps lo quotient up first a b w D C positive whole end root sum =
    cancel (2 ^ 23 * first) (lo * (eps * (b + 1) * C)) (charge * (2 ^ 40 * w) * D) (omega arith)
    (omega (arith, mul-le-mul_right (first * (w * D)) whole, mul-le-mul_right (eps * (a + 1) * (w * D)) end, mul-le-mul_left (2 ^ 23 * (lo * eps * (b + 1))) sum, mul-le-mul_left (2 ^ 23 * (lo * eps * (up * D))) root))

-- the upper end is at least the greatest potential of an order
pub above_at : (charge eps lam k a b x down first quotient hi power : ℕ) → AreRoots power a b → 0 < first → x * lam ≤ 10 * a * 2 ^ 20
    → ((p q : ℕ) → x * q ≤ p * UNIT → down * divisor_of q k ≤ first * series_sum p q k)
    → charge * 2 ^ 63 ≤ quotient * (eps * a) → quotient * first ≤ hi * (down * 2 ^ 23)
    → charge * power * divisor_of (power * lam) k ≤ hi * (eps * b * series_sum (10 * b) (power * lam) k)
above_at charge eps lam k a b x down first quotient hi power are positive rounded contained whole end =
    let arg : x * (power * lam) ≤ 10 * b * UNIT = rw are.two (argument_low x lam a b are.w rounded are.low) in
    let sum = contained (10 * b) (power * lam) arg in
    let bound = above_end charge eps hi quotient down first a b are.w (divisor_of (power * lam) k) (series_sum (10 * b) (power * lam) k) positive whole end are.low sum in
    subst (λ (z : ℕ). charge * z * divisor_of (power * lam) k ≤ hi * (eps * b * series_sum (10 * b) (power * lam) k)) (sym are.two) bound

-- the lower end is at most the least potential of an order
pub below_at : (charge eps lam k a b x up first quotient lo power : ℕ) → AreRoots power a b → 0 < first → 10 * (a + 1) * 2 ^ 20 ≤ x * lam
    → ((p q : ℕ) → p * UNIT ≤ x * q → first * closed_sum p q k ≤ up * closed_divisor p q k)
    → quotient * (eps * (a + 1)) ≤ charge * 2 ^ 63 → lo * (up * 2 ^ 23) ≤ quotient * first
    → lo * (eps * (b + 1) * closed_sum (10 * (b + 1)) (power * lam) k) ≤ charge * power * closed_divisor (10 * (b + 1)) (power * lam) k
below_at charge eps lam k a b x up first quotient lo power are positive rounded contained whole end =
    let arg : 10 * (b + 1) * UNIT ≤ x * (power * lam) = rw are.two (argument_high x lam a b are.w rounded are.high) in
    let sum = contained (10 * (b + 1)) (power * lam) arg in
    let bound = below_end charge eps lo quotient up first a b are.w (closed_divisor (10 * (b + 1)) (power * lam) k) (closed_sum (10 * (b + 1)) (power * lam) k) positive whole end are.high sum in
    subst (λ (z : ℕ). lo * (eps * (b + 1) * closed_sum (10 * (b + 1)) (power * lam) k) ≤ charge * z * closed_divisor (10 * (b + 1)) (power * lam) k) (sym are.two) bound

-- an argument of at most 25 has a closed sum at every order
pub closed_at : (lam k a b x power : ℕ) → 96 ≤ k → AreRoots power a b → 0 < lam → 10 * (a + 1) * 2 ^ 20 ≤ x * lam → x ≤ 25 * UNIT → 10 * (b + 1) < suc (suc k) * (power * lam)
closed_at lam k a b x power from are some rounded few =
    let arg : 10 * (b + 1) * UNIT ≤ x * (power * lam) = rw are.two (argument_high x lam a b are.w rounded are.high) in
    let within : 10 * (b + 1) * UNIT ≤ 25 * UNIT * (power * lam) = le_trans arg (mul-le-mul_right (power * lam) few) in
    let positive : 1 * 1 ≤ are.w * lam = mul-le-mul are.some some in
    let bottom : 0 < power * lam = rw are.two (omega arith) in
    let wide : 98 * (power * lam) ≤ suc (suc k) * (power * lam) = mul-le-mul_right (power * lam) (omega arith) in
    omega arith
