-- what visiting a prefix adds to what was found
use Rattle.std.specs.Prelude.{◌≡◌, ◌+◌, ℤ, List, ◌++◌, IsTrue, Option}
use Rattle.charge_model.specs.declared.charge.Charge.{Charge}
use Rattle.charge_model.specs.Problem.{Problem}
use Rattle.charge_model.specs.Tree.{is_node}
use Rattle.tree_leaves.specs.declared.listing.FoundLists.{FoundLists}
use Rattle.tree_leaves.specs.Subtree.{nodes_under, nodes_beyond, AreLeavesUnder}

-- its members are entered, and its leaves are found
pub record IsVisited (p : Problem) (threshold : Option ℤ) (prefix : List Charge)
    (old new : FoundLists)
    : Type 0 where
  pub entered : old.left ≡ new.left + nodes_under p threshold prefix
  pub more : List (List Charge)
  pub lists : new.lists.items ≡ old.lists.items ++ more
  pub leaves : AreLeavesUnder p threshold prefix more

-- what visiting the prefixes with one more charge adds, this one being a node
pub record AreChildrenVisited (p : Problem) (threshold : Option ℤ) (prefix : List Charge)
    (old new : FoundLists) : Type 0 where
  pub entered : old.left ≡ new.left + nodes_beyond p threshold prefix
  pub more : List (List Charge)
  pub lists : new.lists.items ≡ old.lists.items ++ more
  pub leaves : IsTrue (is_node p threshold prefix) → AreLeavesUnder p threshold prefix more

-- what a node that has all its charges adds
pub record IsLeafKept (p : Problem) (threshold : Option ℤ) (prefix : List Charge)
    (old new : FoundLists)
    : Type 0 where
  pub left : new.left ≡ old.left
  pub more : List (List Charge)
  pub lists : new.lists.items ≡ old.lists.items ++ more
  pub leaves : AreLeavesUnder p threshold prefix more
