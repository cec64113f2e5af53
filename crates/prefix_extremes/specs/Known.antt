-- extremes that are the part of the assigned sites, or that of the others
use Rattle.std.specs.Prelude.{◌≡◌, ℕ, ◌+◌, ◌-◌, ◌*◌, ◌^◌, ◌≤◌, List, unsigned_abs}
use Rattle.charge_model.specs.declared.charge.Charge.{Charge}
use Rattle.charge_model.specs.Problem.{Problem}
use Rattle.charge_model.specs.Prefixes.{least_potential, greatest_potential}
use Rattle.prefix_extremes.specs.Parts.{least_assigned, greatest_assigned, least_unassigned, greatest_unassigned}
use Rattle.prefix_extremes.specs.declared.extremes.Extremes.{Extremes}

-- both are at most this far from 0
pub record AreSmall (most : ℕ) (e : Extremes) : Type 0 where
  pub least : unsigned_abs e.least.value ≤ most
  pub greatest : unsigned_abs e.greatest.value ≤ most

-- the part of the extremes of V_k from the fixed charges and the first d sites
pub record IsAssigned (p : Problem) (q : List Charge) (d k : ℕ) (e : Extremes) : Type 0 where
  pub least : e.least.value ≡ least_assigned p q k d
  pub greatest : e.greatest.value ≡ greatest_assigned p q k d
  pub small : AreSmall ((24 + d) * 10 ^ 13) e

-- the part from the sites after the first d
pub record IsUnassigned (p : Problem) (d k : ℕ) (e : Extremes) : Type 0 where
  pub least : e.least.value ≡ least_unassigned p d k (p.sites - d)
  pub greatest : e.greatest.value ≡ greatest_unassigned p d k (p.sites - d)
  pub small : AreSmall (64 * 10 ^ 13) e

-- the extremes of V_k
pub record AreExtremes (p : Problem) (q : List Charge) (k : ℕ) (e : Extremes) : Type 0 where
  pub least : e.least.value ≡ least_potential p q k
  pub greatest : e.greatest.value ≡ greatest_potential p q k
  pub small : AreSmall (152 * 10 ^ 13) e
