-- in what two problems agree
use Rattle.std.specs.Prelude.{◌≡◌, ℕ, ◌<◌, ◌≤ℤ◌, List, length}
use Rattle.charge_model.specs.declared.span.Span.{Span}
use Rattle.charge_model.specs.Problem.{Problem, hi_in, lo_in}

-- they have the same sites, base and levels
pub record HaveSameNumbers (p q : Problem) : Type 0 where
  pub sites : p.sites ≡ q.sites
  pub base : p.base ≡ q.base
  pub mu_minus : p.mu_minus ≡ q.mu_minus
  pub mu_plus : p.mu_plus ≡ q.mu_plus

-- they have the same fixed charges, and the same class of each pair
pub record HaveSameClasses (p q : Problem) : Type 0 where
  pub fixed : p.fixed_charges ≡ q.fixed_charges
  pub pairs : p.pair_classes ≡ q.pair_classes
  pub near : p.near_classes ≡ q.near_classes

-- the span of each class lies within the wider one
abbrev pub AreWithin : List Span → List Span → Type 0
AreWithin wide narrow = (c : ℕ) → c < length wide
    → (lo_in wide c ≤ℤ lo_in narrow c) × (hi_in narrow c ≤ℤ hi_in wide c)
