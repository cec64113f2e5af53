-- parameters are given by their numbers
use Rattle.std.proofs.Common.{◌≡◌, ap, subst, ℕ, ℤ}
use Rattle.std.proofs.Props.{props}
use Rattle.model_params.specs.declared.params.Params.{Params}
use Rattle.model_params.specs.Params.{AreParamsInRange}

-- there is one proof that they are in range
one_range : (coulomb eps lam depth gap : ℤ) (base : ℕ) (a b : AreParamsInRange coulomb eps lam depth gap base) → a ≡ b
one_range coulomb eps lam depth gap base = hlevel props

-- the numbers of parameters
record Numbers : Type 0 where
  coulomb : ℤ
  eps : ℤ
  lam : ℤ
  depth : ℤ
  gap : ℤ
  base : ℕ

abbrev numbers_of : Params → Numbers
numbers_of p = record { coulomb = p.coulomb; eps = p.eps; lam = p.lam; depth = p.depth; gap = p.gap; base = p.base }

abbrev AreWithin : Numbers → Type 0
AreWithin n = AreParamsInRange n.coulomb n.eps n.lam n.depth n.gap n.base

abbrev params_from : (n : Numbers) → AreWithin n → Params
params_from n within = record { coulomb = n.coulomb; eps = n.eps; lam = n.lam; depth = n.depth; gap = n.gap; base = n.base; in_range = within }

same_numbers : (p q : Params) → numbers_of p ≡ numbers_of q → p ≡ q
same_numbers p q same =
    subst (λ (n : Numbers). (within : AreWithin n) → p ≡ params_from n within) same
    (λ within. ap (params_from (numbers_of p)) (one_range p.coulomb p.eps p.lam p.depth p.gap p.base p.in_range within)) q.in_range

-- numbers that are the same one by one
numbers_agree : (c d e f l m x y g h : ℤ) (a b : ℕ) → c ≡ d → e ≡ f → l ≡ m → x ≡ y → g ≡ h → a ≡ b
    → ◌≡◌ {A = Numbers} (record { coulomb = c; eps = e; lam = l; depth = x; gap = g; base = a }) (record { coulomb = d; eps = f; lam = m; depth = y; gap = h; base = b })
numbers_agree c d e f l m x y g h a b coulomb eps lam depth gap base = cc

pub one_params : (p q : Params) → p.coulomb ≡ q.coulomb → p.eps ≡ q.eps → p.lam ≡ q.lam → p.depth ≡ q.depth → p.gap ≡ q.gap → p.base ≡ q.base → p ≡ q
one_params p q coulomb eps lam depth gap base =
    same_numbers p q (numbers_agree p.coulomb q.coulomb p.eps q.eps p.lam q.lam p.depth q.depth p.gap q.gap p.base q.base coulomb eps lam depth gap base)
