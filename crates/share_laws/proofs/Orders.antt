-- a lower factor is at most the series, or one divided by it, at each greater order
use Rattle.std.proofs.Common.{◌≡◌, ℕ, zero, suc, ◌+◌, ◌*◌, ◌<◌, ◌≤◌, pos, negsuc, ◌⊎◌, inl, inr, nat_lt, if◌then◌else◌, arith}
use Rattle.std.proofs.lemmas.Bool.{cases_lt}
use Rattle.std.proofs.Math.Nat.{mul-le-mul_right}
use Rattle.root_exp.specs.Series.{closed_divisor, closed_sum, divisor_of, series_sum, Fraction}
use Rattle.occupation.specs.Fractions.{inverse, nothing}
use Rattle.occupation.specs.Intervals.{closed_at, lower_factor}
use Rattle.occupation.proofs.FactorLemmas.{cancel}
use Rattle.occupation.proofs.OrderLemmas.{ClosedIsGreater, closed_positive, divisor_positive}
use Rattle.occupation.proofs.PairLemmas.{chosen, other}

-- the sums of the series grow with the order, and the closed sums fall
abbrev pub SumsGrow : Type 0
SumsGrow = (p q k : ℕ) → series_sum p q k * divisor_of q (suc k) ≤ series_sum p q (suc k) * divisor_of q k

abbrev pub ClosedSumsFall : Type 0
ClosedSumsFall = (p q k : ℕ) → p < suc (suc k) * q → closed_sum p q (suc k) * closed_divisor p q k ≤ closed_sum p q k * closed_divisor p q (suc k)

-- a / b at most c / d, and that at most e / f
chain : (a b c d e f : ℕ) → 1 ≤ d → a * d ≤ c * b → c * f ≤ e * d → a * f ≤ e * b
chain a b c d e f some one two = cancel d (a * f) (e * b) some (omega (arith, mul-le-mul_right f one, mul-le-mul_right b two))

crossed : (s d c e u v : ℕ) → 1 ≤ e → s * e ≤ c * d → c * v ≤ u * e → v * s ≤ u * d
crossed s d c e u v some one two = cancel e (v * s) (u * d) some (omega (arith, mul-le-mul_right v one, mul-le-mul_right d two))

module _ (greater : ClosedIsGreater) (grow : SumsGrow) (fall : ClosedSumsFall) (k q : ℕ) (some : 1 ≤ q) where
  -- the order that is so many above k
  abbrev pub order : ℕ → ℕ
  order zero = k
  order (suc j) = suc (order j)

  pub order_is : (j : ℕ) → order j ≡ j + k
  order_is zero = omega arith
  order_is (suc j) = let rest = order_is j in omega (arith, rest)

  sums_grow : (p j : ℕ) → series_sum p q k * divisor_of q (order j) ≤ series_sum p q (order j) * divisor_of q k
  sums_grow p zero = omega arith
  sums_grow p (suc j) =
      let m = order j in
      chain (series_sum p q k) (divisor_of q k) (series_sum p q m) (divisor_of q m) (series_sum p q (suc m)) (divisor_of q (suc m)) (divisor_positive q m some) (sums_grow p j) (grow p q m)

  near_at : (p j : ℕ) → p < suc (suc k) * q → p < suc (suc (order j)) * q
  near_at p zero near = near
  near_at p (suc j) near = let rest = near_at p j near in omega (arith, rest)

  closed_falls : (p j : ℕ) → p < suc (suc k) * q → closed_sum p q (order j) * closed_divisor p q k ≤ closed_sum p q k * closed_divisor p q (order j)
  closed_falls p zero near = omega arith
  closed_falls p (suc j) near =
      let m = order j in
      chain (closed_sum p q (suc m)) (closed_divisor p q (suc m)) (closed_sum p q m) (closed_divisor p q m) (closed_sum p q k) (closed_divisor p q k)
      (closed_positive p q m some (near_at p j near)) (fall p q m (near_at p j near)) (closed_falls p j near)

  pub under_pos : (p j : ℕ) → (lower_factor k q (pos p)).top * divisor_of q (order j) ≤ (lower_factor k q (pos p)).bottom * series_sum p q (order j)
  unfolding lower_factor
  under_pos p j = let rest = sums_grow p j in omega (arith, rest)

  abbrev IsInverseUnder : ℕ → ℕ → Fraction → Type 0
  IsInverseUnder m j f = f.top * series_sum (suc m) q (order j) ≤ f.bottom * divisor_of q (order j)

  pub under_neg : (m j : ℕ) → (lower_factor k q (negsuc m)).top * series_sum (suc m) q (order j) ≤ (lower_factor k q (negsuc m)).bottom * divisor_of q (order j)
  unfolding lower_factor
  under_neg m j = by (cases_lt (suc m) (suc (suc k) * q)) where
    by : (suc m < suc (suc k) * q) ⊎ (suc (suc k) * q ≤ suc m) → IsInverseUnder m j (if nat_lt (suc m) (suc (suc k) * q) then inverse (closed_at k q (suc m)) else nothing)
    by (inl near) =
        rw (chosen (suc m) (suc (suc k) * q) (inverse (closed_at k q (suc m))) nothing near)
        (crossed (series_sum (suc m) q (order j)) (divisor_of q (order j)) (closed_sum (suc m) q (order j)) (closed_divisor (suc m) q (order j)) (closed_sum (suc m) q k) (closed_divisor (suc m) q k)
        (closed_positive (suc m) q (order j) some (near_at (suc m) j near)) (greater (suc m) q (order j) (near_at (suc m) j near)) (closed_falls (suc m) j near))
    by (inr far) = rw (other (suc m) (suc (suc k) * q) (inverse (closed_at k q (suc m))) nothing far) (omega arith)
