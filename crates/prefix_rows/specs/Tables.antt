-- tables of rows and parts by depth
use Rattle.std.specs.Prelude.{◌≡◌, ℕ, ◌+◌, ◌-◌, ◌*◌, ◌^◌, ◌<◌, ◌≤◌, pos, List, length, slice_index_or, unsigned_abs}
use Rattle.charge_model.specs.declared.charge.Charge.{Charge}
use Rattle.charge_model.specs.Problem.{Problem}
use Rattle.prefix_extremes.specs.Parts.{assigned_low, pairs_low}
use Rattle.prefix_extremes.specs.declared.amount.Amount.{Amount}
use Rattle.prefix_rows.specs.declared.row.Row.{Row}
use Rattle.prefix_extremes.specs.Known.{IsAssigned, IsUnassigned}
use Rattle.prefix_rows.specs.Rows.{IsRow, IsSpanOfPair, row_at}

-- the part at a depth
abbrev pub part_at : List Amount → ℕ → Amount
part_at parts d = slice_index_or parts d (record { value = pos 0 })

-- the spans of each site below n
pub record AreSpanRows (p : Problem) (n : ℕ) (rows : List Row) : Type 0 where
  pub whole : length rows ≡ n
  pub each : (j : ℕ) → j < n → IsRow p.sites (IsSpanOfPair p j) (row_at rows j)

-- the unassigned parts after each number of sites below n
pub record AreUnassignedRows (p : Problem) (n : ℕ) (rows : List Row) : Type 0 where
  pub whole : length rows ≡ n
  pub each : (d : ℕ) → d < n → IsRow p.sites (IsUnassigned p d) (row_at rows d)

-- the third part of low after d sites
pub record IsPairPart (p : Problem) (d : ℕ) (part : Amount) : Type 0 where
  pub value : part.value ≡ pairs_low p d (p.sites - d)
  pub small : unsigned_abs part.value ≤ 64 * (64 * 10 ^ 13)

-- these parts for each number of assigned sites below n
pub record ArePairParts (p : Problem) (n : ℕ) (parts : List Amount) : Type 0 where
  pub whole : length parts ≡ n
  pub each : (d : ℕ) → d < n → IsPairPart p d (part_at parts d)

-- the first part of low from the first d sites of a prefix
pub record IsPrefixPart (p : Problem) (q : List Charge) (d : ℕ) (part : Amount) : Type 0 where
  pub value : part.value ≡ assigned_low p q d
  pub small : unsigned_abs part.value ≤ d * (88 * 10 ^ 13)

-- the rows for each of the fronts of a prefix
pub record AreRowsOf (p : Problem) (q : List Charge) (rows : List Row) : Type 0 where
  pub whole : length rows ≡ p.sites + 1
  pub each : (d : ℕ) → d ≤ length q → IsRow p.sites (IsAssigned p q d) (row_at rows d)

-- the first parts of low for each of its fronts
pub record ArePartsOf (p : Problem) (q : List Charge) (parts : List Amount) : Type 0 where
  pub whole : length parts ≡ p.sites + 1
  pub each : (d : ℕ) → d ≤ length q → IsPrefixPart p q d (part_at parts d)
