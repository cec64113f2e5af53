-- points: a permittivity with a screening length, and the interval of a potential there
use Rattle.std.specs.Prelude.{ℕ, suc, ◌+◌, ◌*◌, ◌^◌, ◌≤◌, ℤ, nat_lt, if◌then◌else◌}
use Rattle.root_exp.specs.declared.TheConstants.{ORDER}
use Rattle.root_exp.specs.Root.{IsRoot}
use Rattle.root_exp.specs.Series.{closed_divisor, closed_sum, divisor_of, series_sum, Fraction}
use Rattle.model_params.specs.declared.params.Params.{Params}
use Rattle.screened_coulomb.specs.Potential.{IsAtLeast, IsAtMost, bottom_of, eps_of, lam_of, top_of}

-- a relative permittivity of eps / parts, in 10^-4, with a screening length of lam / parts,
-- in 10^-4 nm: any rational numbers
pub record Point : Type 0 where
  pub parts : ℕ
  pub eps : ℕ
  pub lam : ℕ

-- the point of parameters
abbrev pub point_of : Params → Point
point_of p = record { parts = 1; eps = eps_of p; lam = lam_of p }

-- at the root a of order k the argument of the series is 10·a·parts / (2^k·lam): its top
abbrev pub top_at : Point → ℕ → ℕ
top_at point a = top_of a * point.parts

-- the least potential of order k at a point, where the closed sum of the series is there
abbrev pub closed_low_at : ℕ → Point → ℕ → ℕ → Fraction
closed_low_at coulomb point k a = record {
  top = coulomb * point.parts * 2 ^ k
      * closed_divisor (top_at point (a + 1)) (bottom_of point.lam k) k;
  bottom = point.eps * (a + 1) * closed_sum (top_at point (a + 1)) (bottom_of point.lam k) k;
}

-- the lower end of the interval of order k at a point, in 10^-12 V
abbrev pub low_at : ℕ → Point → ℕ → ℕ → Fraction
low_at coulomb point k a =
    if nat_lt (top_at point (a + 1)) (suc (suc k) * bottom_of point.lam k)
    then closed_low_at coulomb point k a
    else record { top = 0; bottom = 1 }

-- the upper end of the interval of order k at a point, in 10^-12 V
abbrev pub high_at : ℕ → Point → ℕ → ℕ → Fraction
high_at coulomb point k a = record {
  top = coulomb * point.parts * 2 ^ k * divisor_of (bottom_of point.lam k) k;
  bottom = point.eps * a * series_sum (top_at point a) (bottom_of point.lam k) k;
}

-- the first fraction is at most the second
abbrev pub IsNoMore : Fraction → Fraction → Type 0
IsNoMore f g = f.top * g.bottom ≤ g.top * f.bottom

-- a fraction times a scale
abbrev pub scaled : ℕ → Fraction → Fraction
scaled scale f = record { top = scale * f.top; bottom = f.bottom }

-- z / scale lies in the interval of order k at a point, at the root a of this order
pub record IsInInterval (coulomb : ℕ) (point : Point) (k a scale : ℕ) (z : ℤ) : Type 0 where
  pub above : IsAtLeast z (scaled scale (low_at coulomb point k a))
  pub below : IsAtMost z (scaled scale (high_at coulomb point k a))

-- z / scale is a potential of the squared distance d at a point:
-- it lies in the interval of some order from ORDER on
pub record IsPotentialAt (coulomb : ℕ) (point : Point) (d scale : ℕ) (z : ℤ) : Type 0 where
  pub order : ℕ
  pub root : ℕ
  pub enough : ORDER ≤ order
  pub of_root : IsRoot (d * 4 ^ order) root
  pub lies : IsInInterval coulomb point order root scale z
