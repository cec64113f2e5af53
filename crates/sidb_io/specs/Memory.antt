-- What contracts see of the source and the sink in memory that fail on demand.
use Rattle.std.specs.Prelude.{ℕ, ◌≤◌, ◌⊎◌, List, ◌++◌, length, take, drop, Contains, Result, Ok, Err}
use Rattle.sidb_io.specs.Outside.{next_count}

-- what a source has left, the most that it gives a call, the numbers of the calls that fail, and
-- how many calls and faults there were
pub record Supply : Type 0 where
  pub left : List ℕ
  pub piece : ℕ
  pub fails : List ℕ
  pub calls : ℕ
  pub faults : ℕ

-- the supply after a call that answered this
abbrev pub supply_after : {E : Type 0} → Supply → Result ℕ E → Supply
supply_after s (Ok k) = record s { left = drop k s.left; calls = next_count s.calls }
supply_after s (Err e) = record s { calls = next_count s.calls; faults = next_count s.faults }

-- what a sink took, the most that it takes in all and a call, the numbers of the calls that fail,
-- and how many calls and faults there were
pub record Store : Type 0 where
  pub written : List ℕ
  pub capacity : ℕ
  pub piece : ℕ
  pub fails : List ℕ
  pub calls : ℕ
  pub faults : ℕ

-- the next call fails: its number is listed, or no capacity is left
abbrev pub Refuses : Store → Type 0
Refuses s = Contains s.fails s.calls ⊎ (s.capacity ≤ length s.written)

-- the store after a call with this piece that answered this
abbrev pub store_after : {E : Type 0} → Store → List ℕ → Result ℕ E → Store
store_after s piece (Ok k) =
    record s { written = s.written ++ take k piece; calls = next_count s.calls }
store_after s piece (Err e) = record s { calls = next_count s.calls; faults = next_count s.faults }
