-- what a search for the leaves of a tree answers
use Rattle.std.specs.Prelude.{◌≡◌, ℕ, ◌<◌, ◌≤◌, ℤ, List, Option}
use Rattle.charge_model.specs.declared.charge.Charge.{Charge}
use Rattle.charge_model.specs.Problem.{Problem}
use Rattle.charge_model.specs.Tree.{node_count}
use Rattle.tree_leaves.specs.Leaves.{Leaves, AreLeaves}
use Rattle.tree_leaves.specs.Subtree.{nodes_under, AreLeavesUnder}
use Rattle.tree_leaves.specs.declared.leaf_list.LeavesAnswer.{LeavesAnswer}
use Rattle.tree_leaves.specs.declared.leaf_list.LeavesAnswer.TheVariants.{Lists, Budget, Memory}

-- the leaves of the tree under a threshold, with its count of nodes, which keeps the limit
pub record IsLeafList (p : Problem) (bound : Option ℤ) (limit : ℕ) (l : Leaves) : Type 0 where
  pub leaves : AreLeaves p bound l.lists
  pub nodes : l.nodes ≡ node_count p bound
  pub within : node_count p bound ≤ limit

-- the leaves that begin with a prefix, with the count of nodes that do, which keeps the limit
pub record IsListedUnder (p : Problem) (threshold : Option ℤ) (prefix : List Charge) (limit : ℕ)
    (l : Leaves) : Type 0 where
  pub leaves : AreLeavesUnder p threshold prefix l.lists
  pub nodes : l.nodes ≡ nodes_under p threshold prefix
  pub within : nodes_under p threshold prefix ≤ limit

-- the leaves, or that the tree has more nodes than the limit
abbrev pub IsLeavesAnswer : Problem → Option ℤ → ℕ → LeavesAnswer → Type 0
IsLeavesAnswer p bound limit (Lists l) = IsLeafList p bound limit l
IsLeavesAnswer p bound limit Budget = limit < node_count p bound
IsLeavesAnswer p bound limit Memory = Unit {0}
