-- the sums of the exponential series between powers: (1 - x/n)^-n is above each, and (1 + x/n)^n is below that of order n
use Rattle.std.proofs.Common.{◌≡◌, ℕ, zero, suc, ◌+◌, ◌-◌, ◌*◌, ◌^◌, ◌≤◌, refl, ap, subst, arith}
use Rattle.std.proofs.Math.Nat.{pow-zero, pow-suc, one-le-pow, mul-le-mul_left, mul-le-mul_right}
use Rattle.std.proofs.lemmas.Nat.{mul-pow}
use Rattle.root_exp.specs.Series.{divisor_of, series_sum}
use Rattle.occupation.proofs.FactorLemmas.{cancel, sum_at_zero}

-- a power of a sum
up_step : (X Y Z x p n : ℕ) → X ≤ Z + n * (p * Y) → X ≡ Y * (x + p) → X * (x + p) ≤ Z * x + suc n * (p * X)
up_step X Y Z x p n h is = omega (arith, mul-le-mul_right x h, ap (λ (m : ℕ). n * p * m) is)

pub power_above : (x p k : ℕ) → (x + p) ^ suc k ≤ x ^ suc k + suc k * (p * (x + p) ^ k)
power_above x p zero = rw (pow-suc (x + p) 0, pow-zero (x + p), pow-suc x 0, pow-zero x) (omega arith)
power_above x p (suc k) =
    rw (pow-suc (x + p) (suc k), pow-suc x (suc k)) (up_step ((x + p) ^ suc k) ((x + p) ^ k) (x ^ suc k) x p (suc k) (power_above x p k) (pow-suc (x + p) k))

down_step : (X Y Z x p n : ℕ) → Z + n * (p * Y) ≤ X → Z ≡ Y * x → Z * x + suc n * (p * Z) ≤ X * (x + p)
down_step X Y Z x p n h is = omega (arith, mul-le-mul_right (x + p) h, ap (λ (m : ℕ). n * p * m) is)

power_below : (x p k : ℕ) → x ^ suc k + suc k * (p * x ^ k) ≤ (x + p) ^ suc k
power_below x p zero = rw (pow-suc (x + p) 0, pow-zero (x + p), pow-suc x 0, pow-zero x) (omega arith)
power_below x p (suc k) =
    rw (pow-suc (x + p) (suc k), pow-suc x (suc k)) (down_step ((x + p) ^ suc k) (x ^ k) (x ^ suc k) x p (suc k) (power_below x p k) (pow-suc x k))

-- a sum of the series at a greater argument
rise_step : (T S U X V Z N p n m : ℕ) → T ≤ S + p * (n * U) → T ≡ U * (n * N) + X → V ≤ Z + m * (p * X) → T * (m * N) + V ≤ S * (m * N) + Z + p * (m * T)
rise_step T S U X V Z N p n m h is v = omega (arith, mul-le-mul_right (m * N) h, ap (λ (s : ℕ). p * (m * s)) is, v)

rises_at_most : (x p N k : ℕ) → series_sum (x + p) N (suc k) ≤ series_sum x N (suc k) + p * (suc k * series_sum (x + p) N k)
unfolding series_sum
rises_at_most x p N zero = rw (pow-suc (x + p) 0, pow-zero (x + p), pow-suc x 0, pow-zero x) (omega arith)
rises_at_most x p N (suc k) =
    rise_step (series_sum (x + p) N (suc k)) (series_sum x N (suc k)) (series_sum (x + p) N k) ((x + p) ^ suc k) ((x + p) ^ suc (suc k)) (x ^ suc (suc k)) N p (suc k) (suc (suc k))
    (rises_at_most x p N k) refl (power_above x p (suc k))

fall_step : (T S U X V Z N p n m : ℕ) → S + p * (n * U) ≤ T → S ≡ U * (n * N) + X → Z + m * (p * X) ≤ V → S * (m * N) + Z + p * (m * S) ≤ T * (m * N) + V
fall_step T S U X V Z N p n m h is v = omega (arith, mul-le-mul_right (m * N) h, ap (λ (s : ℕ). p * (m * s)) is, v)

rises_at_least : (x p N k : ℕ) → series_sum x N (suc k) + p * (suc k * series_sum x N k) ≤ series_sum (x + p) N (suc k)
unfolding series_sum
rises_at_least x p N zero = rw (pow-suc (x + p) 0, pow-zero (x + p), pow-suc x 0, pow-zero x) (omega arith)
rises_at_least x p N (suc k) =
    fall_step (series_sum (x + p) N (suc k)) (series_sum x N (suc k)) (series_sum x N k) (x ^ suc k) ((x + p) ^ suc (suc k)) (x ^ suc (suc k)) N p (suc k) (suc (suc k))
    (rises_at_least x p N k) refl (power_below x p (suc k))

shrink_step : (r N p n T S U X : ℕ) → N ≡ r + p → T ≤ S + p * (n * U) → T ≡ U * (n * N) + X → r * T ≤ N * S
shrink_step r N p n T S U X is h sum = omega (arith, mul-le-mul_left N h, ap (λ (s : ℕ). p * s) sum, ap (λ (m : ℕ). m * T) is)

shrinks : (x p N k : ℕ) → p ≤ N → (N - p) * series_sum (x + p) N k ≤ N * series_sum x N k
unfolding series_sum
shrinks x p N zero small = omega (arith, small)
shrinks x p N (suc k) small =
    shrink_step (N - p) N p (suc k) (series_sum (x + p) N (suc k)) (series_sum x N (suc k)) (series_sum (x + p) N k) ((x + p) ^ suc k) (omega (arith, small)) (rises_at_most x p N k) refl

grow_step : (N p n T S U X : ℕ) → S + p * (n * U) ≤ T → S ≡ U * (n * N) + X → (N + p) * (n * U) ≤ T
grow_step N p n T S U X h is = omega (arith, h, is)

grows : (x p N k : ℕ) → (N + p) * (suc k * series_sum x N k) ≤ series_sum (x + p) N (suc k)
unfolding series_sum
grows x p N k =
    grow_step N p (suc k) (series_sum (x + p) N (suc k)) (series_sum x N (suc k)) (series_sum x N k) (x ^ suc k) (rises_at_least x p N k) refl

-- so many steps
abbrev steps : ℕ → ℕ → ℕ
steps p zero = 0
steps p (suc j) = steps p j + p

steps_are : (p j : ℕ) → steps p j ≡ j * p
steps_are p zero = omega arith
steps_are p (suc j) = let rest = steps_are p j in omega (arith, rest)

below_step : (R r T S N P D : ℕ) → r * T ≤ N * S → R * S ≤ P * D → R * r * T ≤ P * N * D
below_step R r T S N P D one rest = omega (arith, mul-le-mul_left R one, mul-le-mul_right N rest)

below_power : (p N k j : ℕ) → p ≤ N → (N - p) ^ j * series_sum (steps p j) N k ≤ N ^ j * divisor_of N k
below_power p N k zero small = rw (pow-zero (N - p), pow-zero N, sum_at_zero N k) (omega arith)
below_power p N k (suc j) small =
    rw (pow-suc (N - p) j, pow-suc N j)
    (below_step ((N - p) ^ j) (N - p) (series_sum (steps p j + p) N k) (series_sum (steps p j) N k) N (N ^ j) (divisor_of N k) (shrinks (steps p j) p N k small) (below_power p N k j small))

above_step : (A D B S T N m n : ℕ) → A * D ≤ B * S → m * (n * S) ≤ T → A * m * (D * (n * N)) ≤ B * N * T
above_step A D B S T N m n rest one = omega (arith, mul-le-mul_right (m * (n * N)) rest, mul-le-mul_left (B * N) one)

above_power : (p N j : ℕ) → (N + p) ^ j * divisor_of N j ≤ N ^ j * series_sum (steps p j) N j
unfolding divisor_of
above_power p N zero = rw (pow-zero (N + p), pow-zero N, sum_at_zero N 0) (omega arith)
above_power p N (suc j) =
    rw (pow-suc (N + p) j, pow-suc N j)
    (above_step ((N + p) ^ j) (divisor_of N j) (N ^ j) (series_sum (steps p j) N j) (series_sum (steps p j + p) N (suc j)) N (N + p) (suc j) (above_power p N j) (grows (steps p j) p N j))

-- the sums with another divisor
sum_step : (M m S n q P : ℕ) → M * S * (n * (m * q)) + M * m * P ≡ M * m * (S * (n * q) + P)
sum_step M m S n q P = omega arith

scaled_sum : (m p q k : ℕ) → series_sum (m * p) (m * q) k ≡ m ^ k * series_sum p q k
unfolding series_sum
scaled_sum m p q zero = rw (pow-zero m) (omega arith)
scaled_sum m p q (suc k) = rw (scaled_sum m p q k, mul-pow m p (suc k), pow-suc m k) (sum_step (m ^ k) m (series_sum p q k) (suc k) q (p ^ suc k))

divisor_step : (M m D n q : ℕ) → M * D * (n * (m * q)) ≡ M * m * (D * (n * q))
divisor_step M m D n q = omega arith

scaled_divisor : (m q k : ℕ) → divisor_of (m * q) k ≡ m ^ k * divisor_of q k
unfolding divisor_of
scaled_divisor m q zero = rw (pow-zero m) (omega arith)
scaled_divisor m q (suc k) = rw (scaled_divisor m q k, pow-suc m k) (divisor_step (m ^ k) m (divisor_of q k) (suc k) q)

without : (M A B S D : ℕ) → 1 ≤ M → A * (M * S) ≤ B * (M * D) → A * S ≤ B * D
without M A B S D some h = cancel M (A * S) (B * D) some (omega (arith, h))

-- each sum of order n is at most (1 - x / n)^-n, and at least (1 + x / n)^n, at x = p / q
pub sum_below : (p q n : ℕ) → 1 ≤ n → p ≤ n * q → (n * q - p) ^ n * series_sum p q n ≤ (n * q) ^ n * divisor_of q n
sum_below p q n some small =
    let power = subst (λ (m : ℕ). (n * q - p) ^ n * series_sum m (n * q) n ≤ (n * q) ^ n * divisor_of (n * q) n) (steps_are p n) (below_power p (n * q) n n small) in
    let scaled = subst (λ (m : ℕ). (n * q - p) ^ n * m ≤ (n * q) ^ n * divisor_of (n * q) n) (scaled_sum n p q n) power in
    let both = subst (λ (m : ℕ). (n * q - p) ^ n * (n ^ n * series_sum p q n) ≤ (n * q) ^ n * m) (scaled_divisor n q n) scaled in
    without (n ^ n) ((n * q - p) ^ n) ((n * q) ^ n) (series_sum p q n) (divisor_of q n) (one-le-pow n n some) both

pub sum_above : (p q n : ℕ) → 1 ≤ n → (n * q + p) ^ n * divisor_of q n ≤ (n * q) ^ n * series_sum p q n
sum_above p q n some =
    let power = subst (λ (m : ℕ). (n * q + p) ^ n * divisor_of (n * q) n ≤ (n * q) ^ n * series_sum m (n * q) n) (steps_are p n) (above_power p (n * q) n) in
    let scaled = subst (λ (m : ℕ). (n * q + p) ^ n * divisor_of (n * q) n ≤ (n * q) ^ n * m) (scaled_sum n p q n) power in
    let both = subst (λ (m : ℕ). (n * q + p) ^ n * m ≤ (n * q) ^ n * (n ^ n * series_sum p q n)) (scaled_divisor n q n) scaled in
    without (n ^ n) ((n * q + p) ^ n) ((n * q) ^ n) (divisor_of q n) (series_sum p q n) (one-le-pow n n some) both
