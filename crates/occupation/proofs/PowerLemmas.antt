-- a lower factor against powers, and how near the powers are to each other
use Rattle.std.proofs.Common.{◌≡◌, ℕ, suc, ◌+◌, ◌-◌, ◌*◌, ◌^◌, ◌≤◌, sym, subst, arith}
use Rattle.std.proofs.lemmas.Nat.{mul-pow}
use Rattle.std.proofs.Math.Nat.{pow-suc, one-le-pow, pow-le-pow_left, mul-le-mul, mul-le-mul_left, mul-le-mul_right}
use Rattle.root_exp.specs.Series.{divisor_of, series_sum}
use Rattle.occupation.specs.declared.TheConstants.{ONE}
use Rattle.occupation.proofs.FactorLemmas.{cancel}
use Rattle.occupation.proofs.OrderLemmas.{divisor_positive}
use Rattle.occupation.proofs.StepLemmas.{power_above, sum_above, sum_below}

-- one entry against another: g is its lower factor in units of ONE, N stands for n times the divisor of their energies a and e
module _ (g q n : ℕ) (some : 1 ≤ n) (positive : 1 ≤ q) where
  power_positive : 1 ≤ (n * q) ^ n
  power_positive = let one : 1 * 1 ≤ n * q = mul-le-mul some positive in one-le-pow n (n * q) one

  by_power : (P Q S D o : ℕ) → 1 ≤ D → P * S ≤ Q * D → g * D ≤ o * S → g * P ≤ o * Q
  by_power P Q S D o is power factor = cancel D (g * P) (o * Q) is (omega (arith, mul-le-mul_left o power, mul-le-mul_right P factor))

  crossed : (N r p e : ℕ) → N ≡ r + p + e → N * r ≤ (r + e) * (r + p)
  crossed N r p e is = rw is (omega arith)

  -- where it lies above the other
  pub above : (a e : ℕ) → e ≤ a → a ≤ n * q → g * divisor_of q n ≤ ONE * series_sum (a - e) q n → g * (n * q - a) ^ n ≤ ONE * (n * q - e) ^ n
  above a e order small factor =
      let N = n * q in
      let p = a - e in
      let one = by_power ((N - p) ^ n) (N ^ n) (series_sum p q n) (divisor_of q n) ONE (divisor_positive q n positive) (sum_below p q n some (omega (arith, small))) factor in
      let left : N - p ≡ (N - a) + e = omega (arith, order, small) in
      let right : N - e ≡ (N - a) + p = omega (arith, order, small) in
      let cross : N * (N - a) ≤ (N - p) * (N - e) = rw (left, right) (crossed N (N - a) p e (omega (arith, order, small))) in
      let powers : N ^ n * (N - a) ^ n ≤ (N - p) ^ n * (N - e) ^ n = rw (sym (mul-pow N (N - a) n), sym (mul-pow (N - p) (N - e) n)) (pow-le-pow_left cross n) in
      joined (N ^ n) ((N - a) ^ n) ((N - p) ^ n) ((N - e) ^ n) ONE power_positive powers one
    where
      joined : (M b P c o : ℕ) → 1 ≤ M → M * b ≤ P * c → g * P ≤ o * M → g * b ≤ o * c
      joined M b P c o is cross one = cancel M (g * b) (o * c) is (omega (arith, mul-le-mul_left g cross, mul-le-mul_right c one))

  -- where it lies below
  pub below : (a e : ℕ) → a ≤ e → g * series_sum (e - a) q n ≤ ONE * divisor_of q n → g * (n * q + e) ^ n ≤ ONE * (n * q + a) ^ n
  below a e order factor =
      let N = n * q in
      let z = e - a in
      let power = sum_above z q n some in
      let one = turned ((N + z) ^ n) (N ^ n) (series_sum z q n) (divisor_of q n) ONE (divisor_positive q n positive) power factor in
      let same : e ≡ a + z = omega (arith, order) in
      let cross : (N + e) * N ≤ (N + a) * (N + z) = crossed N a z e same in
      let powers : (N + e) ^ n * N ^ n ≤ (N + a) ^ n * (N + z) ^ n = rw (sym (mul-pow (N + e) N n), sym (mul-pow (N + a) (N + z) n)) (pow-le-pow_left cross n) in
      joined (N ^ n) ((N + e) ^ n) ((N + a) ^ n) ((N + z) ^ n) ONE power_positive powers one
    where
      crossed : (N a z e : ℕ) → e ≡ a + z → (N + e) * N ≤ (N + a) * (N + z)
      crossed N a z e is = rw is (omega arith)

      turned : (P Q S D o : ℕ) → 1 ≤ D → P * D ≤ Q * S → g * S ≤ o * D → g * P ≤ o * Q
      turned P Q S D o is power factor = cancel D (g * P) (o * Q) is (omega (arith, mul-le-mul_left g power, mul-le-mul_left Q factor))

      joined : (M v w z o : ℕ) → 1 ≤ M → v * M ≤ w * z → g * z ≤ o * M → g * v ≤ o * w
      joined M v w z o is cross one = cancel M (g * v) (o * w) is (omega (arith, mul-le-mul_left g cross, mul-le-mul_left w one))

-- (N + a) (N - a) is below N^2, and by so little that its power n is too
product_is : (N a : ℕ) → a ≤ N → (N + a) * (N - a) + a * a ≡ N * N
product_is N a small = plain N (N - a) a (omega (arith, small)) where
  plain : (N r a : ℕ) → N ≡ r + a → (N + a) * r + a * a ≡ N * N
  plain N r a is = rw is (omega arith)

pub powers_below : (N a n : ℕ) → a ≤ N → (N + a) ^ n * (N - a) ^ n ≤ (N * N) ^ n
powers_below N a n small =
    let less : (N + a) * (N - a) ≤ N * N = omega (arith, product_is N a small) in
    rw (sym (mul-pow (N + a) (N - a) n)) (pow-le-pow_left less n)

nearly : (X h k w : ℕ) → suc w * (suc k * h) ≤ X + h → w * (X + h) ^ suc k ≤ suc w * X ^ suc k
nearly X h k w near =
    let P = (X + h) ^ k in
    let more = mul-le-mul_left (suc w) (power_above X h k) in
    let small = mul-le-mul_right P near in
    let next = pow-suc (X + h) k in
    last (X ^ suc k) P ((X + h) ^ suc k) X h w (suc k) more small next
  where
    last : (A P Q X h w m : ℕ) → suc w * Q ≤ suc w * (A + m * (h * P)) → suc w * (m * h) * P ≤ (X + h) * P → Q ≡ P * (X + h) → w * Q ≤ suc w * A
    last A P Q X h w m more small next = omega (arith, more, small, next)

pub powers_near : (N a k w : ℕ) → a ≤ N → suc w * (suc k * (a * a)) ≤ N * N → w * (N * N) ^ suc k ≤ suc w * ((N + a) ^ suc k * (N - a) ^ suc k)
powers_near N a k w small near =
    let is = product_is N a small in
    let close = nearly ((N + a) * (N - a)) (a * a) k w (omega (arith, near, is)) in
    rw (sym (mul-pow (N + a) (N - a) (suc k))) (subst (λ (m : ℕ). w * m ^ suc k ≤ suc w * ((N + a) * (N - a)) ^ suc k) is close)
