-- the numbers of a span, their sums and multiples, and the least span that holds a set of numbers
use Rattle.std.specs.Prelude.{◌≡◌, ℤ, ◌+ℤ◌, ◌*ℤ◌, ◌≤ℤ◌}
use Rattle.charge_model.specs.declared.span.Span.{Span}

-- a whole number of the span
pub record IsInSpan (s : Span) (x : ℤ) : Type 0 where
  pub from_lo : s.lo ≤ℤ x
  pub to_hi : x ≤ℤ s.hi

-- z is the sum of a number of a and a number of b
pub record IsSum (a b : Span) (z : ℤ) : Type 0 where
  pub left : ℤ
  pub right : ℤ
  pub of_a : IsInSpan a left
  pub of_b : IsInSpan b right
  pub sum : z ≡ left +ℤ right

-- z is a number of a, times k
pub record IsProduct (a : Span) (k z : ℤ) : Type 0 where
  pub factor : ℤ
  pub of_a : IsInSpan a factor
  pub product : z ≡ factor *ℤ k

-- the span goes from the least member to the greatest
pub record IsHull (member : ℤ → Type 0) (s : Span) : Type 0 where
  pub least : member s.lo
  pub greatest : member s.hi
  pub bounds : (z : ℤ) → member z → IsInSpan s z
