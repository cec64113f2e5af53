-- a lower factor g / o between powers, which stand for the exponentials of two energies
use Rattle.std.proofs.Common.{◌≡◌, ℕ, ◌+◌, ◌-◌, ◌*◌, ◌^◌, ◌≤◌, sym, arith}
use Rattle.std.proofs.lemmas.Nat.{mul-pow}
use Rattle.std.proofs.Math.Nat.{one-le-pow, pow-le-pow_left, mul-le-mul, mul-le-mul_left, mul-le-mul_right}
use Rattle.root_exp.specs.Series.{divisor_of, series_sum}
use Rattle.occupation.proofs.FactorLemmas.{cancel}
use Rattle.occupation.proofs.OrderLemmas.{divisor_positive}
use Rattle.occupation.proofs.StepLemmas.{sum_above, sum_below}

module _ (g o q n : ℕ) (some : 1 ≤ n) (positive : 1 ≤ q) where
  power_positive : 1 ≤ (n * q) ^ n
  power_positive = let one : 1 * 1 ≤ n * q = mul-le-mul some positive in one-le-pow n (n * q) one

  by_power : (P Q S D : ℕ) → 1 ≤ D → P * S ≤ Q * D → g * D ≤ o * S → g * P ≤ o * Q
  by_power P Q S D is power factor = cancel D (g * P) (o * Q) is (omega (arith, mul-le-mul_left o power, mul-le-mul_right P factor))

  crossed : (N r p e : ℕ) → N ≡ r + p + e → N * r ≤ (r + e) * (r + p)
  crossed N r p e is = rw is (omega arith)

  -- where it lies above the other
  pub above : (a e : ℕ) → e ≤ a → a ≤ n * q → g * divisor_of q n ≤ o * series_sum (a - e) q n → g * (n * q - a) ^ n ≤ o * (n * q - e) ^ n
  above a e order small factor =
      let N = n * q in
      let p = a - e in
      let one = by_power ((N - p) ^ n) (N ^ n) (series_sum p q n) (divisor_of q n) (divisor_positive q n positive) (sum_below p q n some (omega (arith, small))) factor in
      let left : N - p ≡ (N - a) + e = omega (arith, order, small) in
      let right : N - e ≡ (N - a) + p = omega (arith, order, small) in
      let cross : N * (N - a) ≤ (N - p) * (N - e) = rw (left, right) (crossed N (N - a) p e (omega (arith, order, small))) in
      let powers : N ^ n * (N - a) ^ n ≤ (N - p) ^ n * (N - e) ^ n = rw (sym (mul-pow N (N - a) n), sym (mul-pow (N - p) (N - e) n)) (pow-le-pow_left cross n) in
      joined (N ^ n) ((N - a) ^ n) ((N - p) ^ n) ((N - e) ^ n) power_positive powers one
    where
      joined : (M b P c : ℕ) → 1 ≤ M → M * b ≤ P * c → g * P ≤ o * M → g * b ≤ o * c
      joined M b P c is cross one = cancel M (g * b) (o * c) is (omega (arith, mul-le-mul_left g cross, mul-le-mul_right c one))

  -- where it lies below
  pub below : (a e : ℕ) → a ≤ e → g * series_sum (e - a) q n ≤ o * divisor_of q n → g * (n * q + e) ^ n ≤ o * (n * q + a) ^ n
  below a e order factor =
      let N = n * q in
      let z = e - a in
      let one = turned ((N + z) ^ n) (N ^ n) (series_sum z q n) (divisor_of q n) (divisor_positive q n positive) (sum_above z q n some) factor in
      let cross : (N + e) * N ≤ (N + a) * (N + z) = flat N a z e (omega (arith, order)) in
      let powers : (N + e) ^ n * N ^ n ≤ (N + a) ^ n * (N + z) ^ n = rw (sym (mul-pow (N + e) N n), sym (mul-pow (N + a) (N + z) n)) (pow-le-pow_left cross n) in
      joined (N ^ n) ((N + e) ^ n) ((N + a) ^ n) ((N + z) ^ n) power_positive powers one
    where
      flat : (N a z e : ℕ) → e ≡ a + z → (N + e) * N ≤ (N + a) * (N + z)
      flat N a z e is = rw is (omega arith)

      turned : (P Q S D : ℕ) → 1 ≤ D → P * D ≤ Q * S → g * S ≤ o * D → g * P ≤ o * Q
      turned P Q S D is power factor = cancel D (g * P) (o * Q) is (omega (arith, mul-le-mul_left g power, mul-le-mul_left Q factor))

      joined : (M v w z : ℕ) → 1 ≤ M → v * M ≤ w * z → g * z ≤ o * M → g * v ≤ o * w
      joined M v w z is cross one = cancel M (g * v) (o * w) is (omega (arith, mul-le-mul_left g cross, mul-le-mul_left w one))
