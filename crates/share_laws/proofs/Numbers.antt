-- fractions as whole numbers, in steps of 1 divided by a common bottom
use Rattle.std.proofs.Common.{◌≡◌, ℕ, zero, suc, ◌+◌, ◌*◌, ◌<◌, ◌≤◌, ◌⊎◌, inl, inr, Option, Some, None, refl, arith}
use Rattle.std.proofs.lemmas.Bool.{cases_lt}
use Rattle.std.proofs.lemmas.Grind.{div_ceil_times}
use Rattle.std.proofs.Math.Nat.{mul-le-mul, mul-le-mul_left, mul-le-mul_right}
use Rattle.std.specs.Int.{div_ceil}
use Rattle.root_exp.specs.Series.{Fraction}
use Rattle.occupation.proofs.FactorLemmas.{cancel}

-- so many times a fraction, rounded up; a great number for an infinite one
pub number_of : ℕ → Option Fraction → ℕ
number_of o None = o * o
number_of o (Some f) = div_ceil (o * f.top) f.bottom

pub number_some : (o : ℕ) (f : Fraction) → number_of o (Some f) ≡ div_ceil (o * f.top) f.bottom
unfolding number_of
number_some o f = refl

between : (b m n : ℕ) → n * b ≤ m * b → m * b < n * b + b → m ≡ n
between b m n low high = by (cases_lt m n) (cases_lt n m) where
  by : (m < n) ⊎ (n ≤ m) → (n < m) ⊎ (m ≤ n) → m ≡ n
  by (inl less) any = absurd (omega (arith, mul-le-mul_right b less, low, high))
  by (inr is) (inl more) = absurd (omega (arith, mul-le-mul_right b more, high))
  by (inr is) (inr also) = omega (arith, is, also)

-- a whole quotient is not rounded
pub whole_quotient : (a b n : ℕ) → 1 ≤ b → a ≡ n * b → div_ceil a b ≡ n
whole_quotient a b n some is = between b (div_ceil a b) n (omega (arith, (div_ceil_times a b some).0, is)) (omega (arith, (div_ceil_times a b some).1, is))

-- a number times a product of bottoms is a whole number of each part of a sum
pub first_part : (m : ℕ) (f : Fraction) (b : ℕ) → 1 ≤ f.bottom → number_of (m * (f.bottom * b)) (Some f) ≡ m * (f.top * b)
unfolding number_of
first_part m f b some = whole_quotient (m * (f.bottom * b) * f.top) f.bottom (m * (f.top * b)) some (omega arith)

-- two fractions, either infinite, whose product is at least 1
pub record HaveProduct (a b c d : ℕ) : Type 0 where
  pub one : 1 ≤ b
  pub two : 1 ≤ d
  pub product : b * d ≤ a * c

-- a fraction above 0
pub record IsAboveZero (f : Fraction) : Type 0 where
  pub top : 1 ≤ f.top
  pub bottom : 1 ≤ f.bottom

abbrev pub AreOpposite : Option Fraction → Option Fraction → Type 0
AreOpposite None None = Unit {0}
AreOpposite None (Some g) = IsAboveZero g
AreOpposite (Some f) None = IsAboveZero f
AreOpposite (Some f) (Some g) = HaveProduct f.top f.bottom g.top g.bottom

some_number : (o : ℕ) (f : Fraction) → 1 ≤ o → IsAboveZero f → 1 ≤ number_of o (Some f)
unfolding number_of
some_number o f some is = plain o f.top f.bottom (div_ceil (o * f.top) f.bottom) some is.top (div_ceil_times (o * f.top) f.bottom is.bottom).0 where
  plain : (o a b n : ℕ) → 1 ≤ o → 1 ≤ a → o * a ≤ n * b → 1 ≤ n
  plain o a b zero some top h = let one : 1 * 1 ≤ o * a = mul-le-mul some top in absurd (omega (arith, one, h))
  plain o a b (suc n) some top h = omega arith

great : (o n : ℕ) → 1 ≤ n → o * o ≤ o * o * n
great o n one = omega (arith, mul-le-mul_left (o * o) one)

joined : (o a b c d m n : ℕ) → 1 ≤ b → 1 ≤ d → b * d ≤ a * c → o * a ≤ m * b → o * c ≤ n * d → o * o ≤ m * n
joined o a b c d m n one two product left right =
    let positive : 1 * 1 ≤ b * d = mul-le-mul one two in
    let both : (o * a) * (o * c) ≤ (m * b) * (n * d) = mul-le-mul left right in
    cancel (b * d) (o * o) (m * n) positive (omega (arith, both, mul-le-mul_left (o * o) product))

pub numbers_reach : (o : ℕ) (f g : Option Fraction) → 1 ≤ o → AreOpposite f g → o * o ≤ number_of o f * number_of o g
unfolding number_of
numbers_reach o None None some are = let one : 1 * 1 ≤ o * o = mul-le-mul some some in great o (o * o) one
numbers_reach o None (Some g) some are = great o (number_of o (Some g)) (some_number o g some are)
numbers_reach o (Some f) None some are = let more = great o (number_of o (Some f)) (some_number o f some are) in omega (arith, more)
numbers_reach o (Some f) (Some g) some are =
    joined o f.top f.bottom g.top g.bottom (number_of o (Some f)) (number_of o (Some g)) are.one are.two are.product
    (div_ceil_times (o * f.top) f.bottom are.one).0 (div_ceil_times (o * g.top) g.bottom are.two).0
