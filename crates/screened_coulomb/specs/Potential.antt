-- the interval of a screened Coulomb potential at each order of its series, in fractions
use Rattle.std.specs.Prelude.{ℕ, suc, ◌+◌, ◌*◌, ◌^◌, ◌≤◌, ℤ, pos, ◌*ℤ◌, ◌≤ℤ◌, unsigned_abs, nat_lt, if◌then◌else◌}
use Rattle.root_exp.specs.declared.TheConstants.{ORDER}
use Rattle.root_exp.specs.Root.{IsRoot}
use Rattle.root_exp.specs.Series.{closed_divisor, closed_sum, divisor_of, series_sum, Fraction}
use Rattle.model_params.specs.declared.params.Params.{Params}

-- K·10^12, K being in 10^-6 V·Å
abbrev pub coulomb_of : Params → ℕ
coulomb_of p = unsigned_abs p.coulomb * 10 ^ 12

-- eps, in 10^-4
abbrev pub eps_of : Params → ℕ
eps_of p = unsigned_abs p.eps

-- lam, in 10^-4 nm
abbrev pub lam_of : Params → ℕ
lam_of p = unsigned_abs p.lam

-- the number is at most the fraction
abbrev pub IsAtMost : ℤ → Fraction → Type 0
IsAtMost z f = (z *ℤ pos f.bottom) ≤ℤ pos f.top

-- the number is at least the fraction
abbrev pub IsAtLeast : ℤ → Fraction → Type 0
IsAtLeast z f = pos f.top ≤ℤ (z *ℤ pos f.bottom)

-- at the root a of order k the argument of the series is 10·a / (2^k·lam): its top
abbrev pub top_of : ℕ → ℕ
top_of a = 10 * a

-- its bottom
abbrev pub bottom_of : ℕ → ℕ → ℕ
bottom_of lam k = 2 ^ k * lam

-- the least potential of order k, K·10^12·2^k / (eps·(a + 1)·U(x)) at x = 10·(a + 1) / (2^k·lam)
-- with the closed sum U of the series, where it is there
abbrev pub closed_low : ℕ → ℕ → ℕ → ℕ → ℕ → Fraction
closed_low coulomb eps lam k a = record {
  top = coulomb * 2 ^ k * closed_divisor (top_of (a + 1)) (bottom_of lam k) k;
  bottom = eps * (a + 1) * closed_sum (top_of (a + 1)) (bottom_of lam k) k;
}

-- the closed sum of order k is there where x < k + 2; else the least potential is 0
abbrev pub low_at_order : Params → ℕ → ℕ → Fraction
low_at_order p k a =
    if nat_lt (top_of (a + 1)) (suc (suc k) * bottom_of (lam_of p) k)
    then closed_low (coulomb_of p) (eps_of p) (lam_of p) k a
    else record { top = 0; bottom = 1 }

-- the greatest potential of order k, K·10^12·2^k / (eps·a·S(x)) at x = 10·a / (2^k·lam)
-- with the sum S of the series
abbrev pub high_of : ℕ → ℕ → ℕ → ℕ → ℕ → Fraction
high_of coulomb eps lam k a = record {
  top = coulomb * 2 ^ k * divisor_of (bottom_of lam k) k;
  bottom = eps * a * series_sum (top_of a) (bottom_of lam k) k;
}

-- the upper end of the interval of order k, in 10^-12 V
abbrev pub high_at_order : Params → ℕ → ℕ → Fraction
high_at_order p k a = high_of (coulomb_of p) (eps_of p) (lam_of p) k a

-- the span from lo to hi holds the interval of order k, at the root a of this order
pub record HoldsOrder (p : Params) (lo hi : ℤ) (k a : ℕ) : Type 0 where
  pub low : IsAtMost lo (low_at_order p k a)
  pub high : IsAtLeast hi (high_at_order p k a)

-- the span holds the squared distance d: its interval at every order from ORDER on
abbrev pub HoldsDistance : Params → ℕ → ℤ → ℤ → Type 0
HoldsDistance p d lo hi =
    (k a : ℕ) → ORDER ≤ k → IsRoot (d * 4 ^ k) a → HoldsOrder p lo hi k a
