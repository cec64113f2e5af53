-- what a list of leaves stands for
use Rattle.tree_leaves.specs.declared.leaf_list.LeafList.TheInside.{Inside}
use Rattle.tree_leaves.specs.Leaves.{Leaves}

-- the charge lists and the count of nodes
abbrev pub seen : Inside → Leaves
seen s = record { lists = s.lists.items; nodes = s.nodes }
