-- what are no leaves, and no answers
use Rattle.std.proofs.Common.{pos, neg_ℤ, [], ◌∷◌, arith, Some, None}
use Rattle.charge_model.specs.declared.charge.Charge.TheVariants.{Neg}
use Rattle.tree_leaves.specs.declared.leaf_list.LeavesAnswer.TheVariants.{Budget}
use Rattle.tree_leaves.specs.Leaves.{AreLeaves}
use Rattle.tree_leaves.specs.Answer.{IsLeafList, IsListedUnder, IsLeavesAnswer}
use Rattle.tree_leaves.specs.Subtree.{IsThresholdAtMost, IsPrefix}
use Rattle.tree_leaves.proofs.StandardFacts.{sites_apart, no_site_leaves, no_site_nodes, one_site_none_below}

-- a list is missing, stands twice, is too long
no_list_lost : AreLeaves (sites_apart 0) None [] → ⊥
no_list_lost are =
    let first = no_site_leaves.only 0 [] (omega arith) in
    let held = are.each [] first.0 first.1 in omega (arith, held.1)

no_list_twice : AreLeaves (sites_apart 0) None ([] ∷ [] ∷ []) → ⊥
no_list_twice are = are.in_order 0 1 [] (omega arith) (omega arith)

no_long_list : AreLeaves (sites_apart 0) None ((Neg ∷ []) ∷ []) → ⊥
no_long_list are = let first = are.only 0 [] (omega arith) in omega (arith, first.0.is_list.whole)

no_other_count : IsLeafList (sites_apart 0) None 1 (record { lists = [] ∷ []; nodes = 2 }) → ⊥
no_other_count is = let wrong = is.nodes in let one = no_site_nodes in omega (arith, wrong, one)

no_budget : IsLeavesAnswer (sites_apart 0) None 1 Budget → ⊥
no_budget over = let one = no_site_nodes in omega (arith, over, one)

none_is_highest : IsThresholdAtMost None (Some (pos 0)) → ⊥
none_is_highest h = h

no_long_prefix : IsPrefix (sites_apart 0) (Neg ∷ []) → ⊥
no_long_prefix is = omega (arith, is.short)

no_node_below : IsListedUnder (sites_apart 1) (Some (neg_ℤ (pos 1))) [] 1 (record { lists = []; nodes = 1 }) → ⊥
no_node_below is = let wrong = is.nodes in let none = one_site_none_below in omega (arith, wrong, none)
