-- forms: linear in the numbers of a table
use Rattle.std.specs.Prelude.{◌≡◌, ℕ, ◌+◌, ◌≤◌, ℤ, pos, ◌+ℤ◌, ◌*ℤ◌, List, length, slice_index_or, sum_by, unsigned_abs, ◌*◌, ◌^◌}
use Rattle.charge_model.specs.declared.span.Span.{Span}
use Rattle.charge_model.specs.declared.TheConstants.{MAX_WEIGHT, MAX_POTENTIAL}
use Rattle.charge_model.specs.Problem.{Problem, Table}
use Rattle.charge_model.specs.Rules.{sum_below}

-- a constant, in 10^-12 V, and one whole coefficient for each class
pub record Linear : Type 0 where
  pub constant : ℤ
  pub coefficients : List ℤ

-- the coefficient of class c
abbrev pub coefficient_at : List ℤ → ℕ → ℤ
coefficient_at ks c = slice_index_or ks c (pos 0)

-- the sum of each coefficient times the number of its class
abbrev pub weighed : List ℤ → (ℕ → ℤ) → ℤ
weighed ks u = sum_below (length ks) (λ c. coefficient_at ks c *ℤ u c)

-- what a form is under a table: the scale times the constant, and the weighed numbers
unfoldable pub value_of : Linear → Table → ℤ
value_of f t = pos t.scale *ℤ f.constant +ℤ weighed f.coefficients t.potential

-- the sum of the sizes of the coefficients
abbrev pub weight_of : List ℤ → ℕ
weight_of ks = sum_by unsigned_abs ks

-- the greatest size of the constant of a form of a problem, in 10^-12 V
abbrev pub max_constant : ℕ
max_constant = 5 * 10 ^ 12

-- a form of a problem: one coefficient per class, a small constant and a small weight
pub record IsFormOf (p : Problem) (f : Linear) : Type 0 where
  pub classes : length f.coefficients ≡ length p.spans
  pub constant : unsigned_abs f.constant ≤ max_constant
  pub weight : weight_of f.coefficients ≤ MAX_WEIGHT

-- the greatest size of the value of such a form at scale 1, in 10^-12 V
abbrev pub max_value : ℕ
max_value = max_constant + MAX_WEIGHT * unsigned_abs MAX_POTENTIAL

-- a span of the values of such a form
pub record IsSmallSpan (s : Span) : Type 0 where
  pub least : unsigned_abs s.lo ≤ max_value
  pub greatest : unsigned_abs s.hi ≤ max_value
