-- the sites that keep a prefix from being open
use Rattle.std.specs.Prelude.{◌≡◌, ℕ, ◌<◌, Bool, true, false, ◌||◌, nat_lt, if◌then◌else◌, List, length}
use Rattle.charge_model.specs.declared.charge.Charge.{Charge}
use Rattle.charge_model.specs.declared.charge.Charge.TheVariants.{Neg, Neutral, Pos}
use Rattle.charge_model.specs.Charges.{charge_at}
use Rattle.charge_model.specs.Problem.{Problem}
use Rattle.charge_model.specs.Prefixes.{can_be}

-- whether a site has a charge that it can have: its own where it is assigned, and else any
abbrev pub keeps_open : Problem → List Charge → ℕ → Bool
keeps_open p prefix k =
    if nat_lt k (length prefix) then can_be p prefix k (charge_at prefix k)
    else (can_be p prefix k Neg || can_be p prefix k Neutral || can_be p prefix k Pos)

-- the first site that has none
pub record IsFirstClosed (p : Problem) (prefix : List Charge) (k : ℕ) : Type 0 where
  pub site : k < p.sites
  pub before : (j : ℕ) → j < k → keeps_open p prefix j ≡ true
  pub closed : keeps_open p prefix k ≡ false
