-- the upper factors of two differences that are opposite multiply to at least 1
use Rattle.std.proofs.Common.{◌≡◌, ℕ, zero, suc, ◌*◌, ◌<◌, ◌≤◌, ℤ, pos, negsuc, ◌+ℤ◌, ◌⊎◌, inl, inr, nat_lt, if◌then◌else◌, List, [], ◌∷◌, Option, Some, None, subst, arith}
use Rattle.std.proofs.lemmas.Bool.{cases_lt}
use Rattle.std.proofs.lemmas.Int.{ints}
use Rattle.std.proofs.Math.Nat.{mul-le-mul, mul-le-mul_right}
use Rattle.root_exp.specs.Series.{closed_divisor, closed_sum, divisor_of, series_sum, Fraction}
use Rattle.occupation.specs.Fractions.{inverse}
use Rattle.occupation.specs.Intervals.{closed_at, plus_finite, series_at, upper_factor, upper_total}
use Rattle.occupation.proofs.FactorLemmas.{cancel, one_below}
use Rattle.occupation.proofs.OrderLemmas.{ClosedIsGreater, closed_positive, divisor_positive}
use Rattle.occupation.proofs.PairLemmas.{chosen, other}
use Rattle.share_laws.proofs.Numbers.{AreOpposite, HaveProduct, IsAboveZero}

-- a fraction of at least 1
abbrev IsFromOne : Fraction → Type 0
IsFromOne f = HaveProduct f.top f.bottom 1 1

from_one : (D S C E : ℕ) → 1 ≤ D → D ≤ S → S * E ≤ C * D → E ≤ C
from_one D S C E some less order = cancel D E C some (omega (arith, mul-le-mul_right E less, order))

two_from_one : (a b c d : ℕ) → b ≤ a → d ≤ c → b * d ≤ a * c
two_from_one a b c d one two = mul-le-mul one two

turned : (a b c d : ℕ) → HaveProduct a b c d → HaveProduct c d a b
turned a b c d h = record { one = h.two; two = h.one; product = let p = h.product in omega (arith, p) }

pub opposite_turned : (f g : Option Fraction) → AreOpposite f g → AreOpposite g f
opposite_turned None None h = tt
opposite_turned None (Some g) h = h
opposite_turned (Some f) None h = h
opposite_turned (Some f) (Some g) h = turned f.top f.bottom g.top g.bottom h

abbrev pub HasBottom : Option Fraction → Type 0
HasBottom None = Unit {0}
HasBottom (Some f) = 1 ≤ f.bottom

module _ (greater : ClosedIsGreater) (k q : ℕ) (some : 1 ≤ q) where
  closed_above : (p : ℕ) → p < suc (suc k) * q → closed_divisor p q k ≤ closed_sum p q k
  closed_above p near =
      from_one (divisor_of q k) (series_sum p q k) (closed_sum p q k) (closed_divisor p q k) (divisor_positive q k some) (one_below p q k) (greater p q k near)

  series_some : (p : ℕ) → 1 ≤ series_sum p q k
  series_some p = let bottom = divisor_positive q k some in omega (arith, bottom, one_below p q k)

  inverse_above : (p : ℕ) → IsAboveZero (inverse (series_at k q p))
  inverse_above p = record { top = divisor_positive q k some; bottom = series_some p }

  across : (n : ℕ) → AreOpposite (upper_factor k q (pos (suc n))) (upper_factor k q (negsuc n))
  unfolding upper_factor
  across n = by (cases_lt (suc n) (suc (suc k) * q)) where
    by : (suc n < suc (suc k) * q) ⊎ (suc (suc k) * q ≤ suc n)
        → AreOpposite (if nat_lt (suc n) (suc (suc k) * q) then Some (closed_at k q (suc n)) else None) (Some (inverse (series_at k q (suc n))))
    by (inl near) =
        let order = greater (suc n) q k near in
        rw (chosen {A = Option Fraction} (suc n) (suc (suc k) * q) (Some (closed_at k q (suc n))) None near)
        (made (closed_sum (suc n) q k) (closed_divisor (suc n) q k) (divisor_of q k) (series_sum (suc n) q k) (closed_positive (suc n) q k some near) (series_some (suc n)) order)
      where
        made : (C E D S : ℕ) → 1 ≤ E → 1 ≤ S → S * E ≤ C * D → HaveProduct C E D S
        made C E D S one two order = record { one = one; two = two; product = omega (arith, order) }
    by (inr far) = rw (other {A = Option Fraction} (suc n) (suc (suc k) * q) (Some (closed_at k q (suc n))) None far) (inverse_above (suc n))

  own : AreOpposite (upper_factor k q (pos 0)) (upper_factor k q (pos 0))
  unfolding upper_factor
  own = let near : 0 < suc (suc k) * q = omega (arith, some) in
      rw (chosen {A = Option Fraction} 0 (suc (suc k) * q) (Some (closed_at k q 0)) None near)
      (made (closed_sum 0 q k) (closed_divisor 0 q k) (closed_positive 0 q k some near) (closed_above 0 near))
    where
      made : (C E : ℕ) → 1 ≤ E → E ≤ C → HaveProduct C E C E
      made C E one from = record { one = one; two = one; product = mul-le-mul from from }

  pub opposite : (a b : ℤ) → a +ℤ b ≡ pos 0 → AreOpposite (upper_factor k q a) (upper_factor k q b)
  opposite (pos zero) (pos zero) both = own
  opposite (pos zero) (pos (suc z)) both = absurd (omega (arith, ints, both))
  opposite (pos (suc y)) (pos z) both = absurd (omega (arith, ints, both))
  opposite (pos zero) (negsuc n) both = absurd (omega (arith, ints, both))
  opposite (pos (suc y)) (negsuc n) both = subst (λ m. AreOpposite (upper_factor k q (pos (suc y))) (upper_factor k q (negsuc m))) (same y n both) (across y) where
    same : (y n : ℕ) → (pos (suc y) +ℤ negsuc n) ≡ pos 0 → y ≡ n
    same y n both = omega (arith, ints, both)
  opposite (negsuc n) (pos zero) both = absurd (omega (arith, ints, both))
  opposite (negsuc n) (pos (suc y)) both = subst (λ m. AreOpposite (upper_factor k q (negsuc m)) (upper_factor k q (pos (suc y)))) (same y n both)
      (opposite_turned (upper_factor k q (pos (suc y))) (upper_factor k q (negsuc y)) (across y)) where
        same : (y n : ℕ) → (negsuc n +ℤ pos (suc y)) ≡ pos 0 → y ≡ n
        same y n both = omega (arith, ints, both)
  opposite (negsuc m) (negsuc n) both = absurd (omega (arith, ints, both))

  -- the bottoms
  pub factor_bottom : (d : ℤ) → HasBottom (upper_factor k q d)
  unfolding upper_factor
  factor_bottom (pos p) = by (cases_lt p (suc (suc k) * q)) where
    by : (p < suc (suc k) * q) ⊎ (suc (suc k) * q ≤ p) → HasBottom (if nat_lt p (suc (suc k) * q) then Some (closed_at k q p) else None)
    by (inl near) = rw (chosen {A = Option Fraction} p (suc (suc k) * q) (Some (closed_at k q p)) None near) (closed_positive p q k some near)
    by (inr far) = rw (other {A = Option Fraction} p (suc (suc k) * q) (Some (closed_at k q p)) None far) tt
  factor_bottom (negsuc n) = series_some (suc n)

  sum_bottom : (f g : Option Fraction) → HasBottom f → HasBottom g → HasBottom (plus_finite f g)
  sum_bottom None g one two = tt
  sum_bottom (Some f) None one two = tt
  sum_bottom (Some f) (Some g) one two = mul-le-mul one two

  pub total_bottom : (ds : List ℤ) → HasBottom (upper_total k q ds)
  unfolding upper_total
  total_bottom [] = omega arith
  total_bottom (d ∷ ds) = sum_bottom (upper_factor k q d) (upper_total k q ds) (factor_bottom d) (total_bottom ds)
