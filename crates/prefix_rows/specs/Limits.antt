-- the limits that a charge sets to the extremes of a site's potential
use Rattle.std.specs.Prelude.{◌≡◌, ℕ, ◌^◌, ◌<◌, ℤ, pos, neg_ℤ, ◌==◌, if◌then◌else◌, List, length}
use Rattle.charge_model.specs.declared.charge.Charge.{Charge}
use Rattle.charge_model.specs.declared.charge.Charge.TheVariants.{Neg, Neutral, Pos}
use Rattle.charge_model.specs.Charges.{charge_at}
use Rattle.charge_model.specs.Problem.{Problem}
use Rattle.prefix_extremes.specs.declared.extremes.Extremes.{Extremes}
use Rattle.prefix_rows.specs.declared.row.Row.{Row}
use Rattle.prefix_rows.specs.Rows.{extremes_at}

-- farther from 0 than each extreme of a potential, in 10^-12 V
abbrev pub beyond_extremes : ℤ
beyond_extremes = pos (10 ^ 18)

-- a site can have a charge where its least potential is at most this
abbrev pub least_limit : Problem → Charge → ℤ
least_limit p Neg = beyond_extremes
least_limit p Neutral = p.mu_minus
least_limit p Pos = if p.base == 3 then p.mu_plus else neg_ℤ beyond_extremes

-- and its greatest potential at least this
abbrev pub greatest_limit : Problem → Charge → ℤ
greatest_limit p Neg = p.mu_minus
greatest_limit p Neutral = p.mu_plus
greatest_limit p Pos = neg_ℤ beyond_extremes

-- the limits of a charge
pub record IsLimit (p : Problem) (c : Charge) (limit : Extremes) : Type 0 where
  pub least : limit.least.value ≡ least_limit p c
  pub greatest : limit.greatest.value ≡ greatest_limit p c

-- the limits of each charge of a prefix
abbrev pub AreLimitsOf : Problem → List Charge → Row → Type 0
AreLimitsOf p q limits =
    (k : ℕ) → k < length q → IsLimit p (charge_at q k) (extremes_at limits k)
