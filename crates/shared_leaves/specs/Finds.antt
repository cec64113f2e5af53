-- what is found of the parts of a search tree
use Rattle.std.specs.Prelude.{◌≡◌, ℕ, ◌<◌, ◌≤◌, ℤ, List, Option, Result, Ok, Err, sum_by}
use Rattle.std.specs.List.{flat_map}
use Rattle.charge_model.specs.Problem.{Problem}
use Rattle.tree_leaves.specs.Leaves.{Leaves}
use Rattle.shared_leaves.specs.declared.sharing.Share.{Share}
use Rattle.shared_leaves.specs.declared.joining.Missed.{Missed}
use Rattle.shared_leaves.specs.declared.joining.Missed.TheVariants.{Budget, Stopped, Memory}
use Rattle.shared_leaves.specs.Shares.{nodes_of, AreLeavesOf}

-- the leaves of one part, and how many nodes it has
pub record AreFound (p : Problem) (threshold : Option ℤ) (share : Share) (l : Leaves)
    : Type 0 where
  pub leaves : AreLeavesOf p threshold share l.lists
  pub nodes : l.nodes ≡ nodes_of p threshold share

-- the parts have more nodes than the limit; or nothing is told of them
abbrev pub IsMissed : Problem → Option ℤ → ℕ → List Share → Missed → Type 0
IsMissed p threshold limit shares Budget = limit < sum_by (nodes_of p threshold) shares
IsMissed p threshold limit shares Stopped = Unit {0}
IsMissed p threshold limit shares Memory = Unit {0}

-- the leaves of one part, or why they were not found
abbrev pub IsFoundOf : Problem → Option ℤ → ℕ → Share → Result Leaves Missed → Type 0
IsFoundOf p threshold limit share (Ok l) = AreFound p threshold share l
IsFoundOf p threshold limit share (Err Budget) = limit < nodes_of p threshold share
IsFoundOf p threshold limit share (Err Stopped) = Unit {0}
IsFoundOf p threshold limit share (Err Memory) = Unit {0}

-- one list after the other, with the sum of their nodes, which keeps the limit
pub record IsJoined (limit : ℕ) (parts : List Leaves) (l : Leaves) : Type 0 where
  pub lists : l.lists ≡ flat_map (λ part. part.lists) parts
  pub nodes : l.nodes ≡ sum_by (λ part. part.nodes) parts
  pub within : l.nodes ≤ limit
