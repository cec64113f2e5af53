-- what a search over an interval of levels keeps, and the test of a prefix by parts
use Rattle.std.specs.Prelude.{◌≡◌, ℕ, ◌+◌, ◌*◌, ◌^◌, ◌<◌, ◌≤◌, slice_index_or, Bool, ◌&&◌, ◌||◌, if◌then◌else◌, ◌==◌, nat_lt, int_le, ℤ, pos, ◌-ℤ◌, List, length, unsigned_abs}
use Rattle.charge_model.specs.declared.charge.Charge.{Charge}
use Rattle.charge_model.specs.declared.charge.Charge.TheVariants.{Neg, Neutral, Pos}
use Rattle.charge_model.specs.Charges.{charge_at}
use Rattle.charge_model.specs.Problem.{Problem, class_of, hi_in}
use Rattle.charge_model.specs.Rules.{sum_below}
use Rattle.charge_model.specs.Prefixes.{may_be_positive, least_potential, greatest_potential}
use Rattle.charge_model.specs.declared.TheConstants.{MAX_SITES}
use Rattle.prefix_extremes.specs.declared.amount.Amount.{Amount}
use Rattle.prefix_extremes.specs.declared.extremes.Extremes.{Extremes}
use Rattle.level_range_laws.specs.declared.interval.Interval.{Interval}
use Rattle.level_range_laws.specs.Levels.{at_level, gap_of}
use Rattle.level_range_laws.specs.RangePrefixes.{can_be_in}
use Rattle.level_candidates.specs.declared.plan.LevelPlan.{LevelPlan}
use Rattle.level_candidates.specs.declared.raises.RaiseRow.{RaiseRow}
use Rattle.level_candidates.specs.declared.plan.Limits.{Limits}

-- levels of at most 2 V in size
pub record AreLevels (levels : Interval) : Type 0 where
  pub first_small : unsigned_abs levels.first ≤ 2 * 10 ^ 12
  pub last_small : unsigned_abs levels.last ≤ 2 * 10 ^ 12

-- the limits of each charge: the first level for tests from below, and the last for the others
pub record AreLimits (p : Problem) (levels : Interval) (limits : Limits) : Type 0 where
  pub negative : limits.negative.value ≡ levels.first
  pub neutral : limits.neutral.value ≡ levels.first -ℤ gap_of p
  pub last : limits.last.value ≡ levels.last
  pub positive : limits.positive.value ≡ levels.last -ℤ gap_of p

-- what an unassigned site j adds to the greatest of V_k, where it may be positive
abbrev pub open_hi : Problem → Bool → ℕ → ℕ → ℤ
open_hi p may k j = if may then hi_in p.spans (class_of p k j) else pos 0

-- how much more site j, d sites being assigned, adds to the greatest of V_k at the last level
abbrev pub raise_from : Problem → ℤ → ℕ → ℕ → ℕ → ℤ
raise_from p last d k j =
    if j == k then pos 0
    else if nat_lt j d then pos 0
    else open_hi p (may_be_positive (at_level p last) j) k j -ℤ open_hi p (may_be_positive p j) k j

-- how much greater the greatest of V_k is at the last level
unfoldable pub raise_of : Problem → ℤ → ℕ → ℕ → ℤ
raise_of p last d k = sum_below p.sites (raise_from p last d k)

-- this much
pub record IsRaise (p : Problem) (last : ℤ) (d k : ℕ) (raise : Amount) : Type 0 where
  pub value : raise.value ≡ raise_of p last d k
  pub small : unsigned_abs raise.value ≤ 64 * 10 ^ 13

-- the raise of site k in a row
abbrev pub raise_at : RaiseRow → ℕ → Amount
raise_at row k = slice_index_or row.raises k (record { value = pos 0 })

-- the raise of each site, d sites being assigned
pub record IsRaiseRow (p : Problem) (last : ℤ) (d : ℕ) (row : RaiseRow) : Type 0 where
  pub full : length row.raises ≡ MAX_SITES
  pub each : (k : ℕ) → k < p.sites → IsRaise p last d k (raise_at row k)

-- these rows for each number of assigned sites below n
pub record AreRaiseRows (p : Problem) (last : ℤ) (n : ℕ) (rows : List RaiseRow) : Type 0 where
  pub whole : length rows ≡ n
  pub each : (d : ℕ) (x : RaiseRow) → d < n → IsRaiseRow p last d (slice_index_or rows d x)

-- the limits, and the raises, of the levels
pub record IsLevelPlan (p : Problem) (plan : LevelPlan) : Type 0 where
  pub limits : AreLimits p plan.levels plan.limits
  pub raises : AreRaiseRows p plan.levels.last (p.sites + 1) plan.raises.items

-- the extremes of V_k over a prefix, at the last of the levels
pub record AreRangeExtremes (p : Problem) (levels : Interval) (q : List Charge) (k : ℕ)
    (e : Extremes) : Type 0 where
  pub least : e.least.value ≡ least_potential p q k
  pub greatest : e.greatest.value ≡ greatest_potential (at_level p levels.last) q k

-- whether a site can have a charge at some level where its potential is between these extremes
abbrev pub allows_in : Problem → Interval → Charge → ℤ → ℤ → Bool
allows_in p levels Neg least greatest = int_le levels.first greatest
allows_in p levels Neutral least greatest =
    int_le (levels.first -ℤ gap_of p) greatest && int_le least levels.last
allows_in p levels Pos least greatest = p.base == 3 && int_le least (levels.last -ℤ gap_of p)

-- whether it can have some charge
abbrev pub allows_some_in : Problem → Interval → ℤ → ℤ → Bool
allows_some_in p levels least greatest = allows_in p levels Neg least greatest
    || allows_in p levels Neutral least greatest || allows_in p levels Pos least greatest

-- whether site k can have its charge, or any charge where it has none yet
abbrev pub keeps_open_in : Problem → Interval → List Charge → ℕ → Bool
keeps_open_in p levels q k =
    if nat_lt k (length q) then can_be_in p levels q k (charge_at q k)
    else (can_be_in p levels q k Neg || can_be_in p levels q k Neutral
    || can_be_in p levels q k Pos)
