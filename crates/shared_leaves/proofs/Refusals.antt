-- what are no parts, and no joined lists
use Rattle.std.proofs.Common.{[], ◌∷◌, ap, arith, None, length}
use Rattle.std.specs.Prelude.{slice_index_or}
use Rattle.charge_model.specs.declared.charge.Charge.TheVariants.{Neg, Neutral}
use Rattle.charge_model.specs.Charges.{charge_at, rank_of}
use Rattle.tree_leaves.proofs.Counts.{count_root}
use Rattle.tree_leaves.proofs.StandardFacts.{sites_apart, no_site_nodes}
use Rattle.shared_leaves.specs.declared.sharing.Share.TheVariants.{Under, One}
use Rattle.shared_leaves.specs.Shares.{AreShares}
use Rattle.shared_leaves.specs.Finds.{AreFound, IsJoined}
use Rattle.shared_leaves.proofs.StandardFacts.{two_lists}

-- a part is left out, or has a charge too many
no_part_lost : AreShares (sites_apart 0) None [] [] → ⊥
no_part_lost are = let none = are.nodes in let root = count_root (sites_apart 0) None in let one = no_site_nodes in omega (arith, none, root, one)

no_long_part : AreShares (sites_apart 0) None [] (Under (Neg ∷ []) ∷ []) → ⊥
no_long_part are = let long = are.prefixes 0 One (omega arith) in omega (arith, long.short)

-- a node is not counted, or stands as a list
one_is_not_none : AreFound (sites_apart 1) None One (record { lists = []; nodes = 0 }) → ⊥
one_is_not_none is = omega (arith, is.nodes)

one_is_no_list : AreFound (sites_apart 1) None One (record { lists = [] ∷ []; nodes = 1 }) → ⊥
one_is_no_list is = omega (arith, ap length is.leaves)

-- lists in another order, another sum, and one above the limit
no_other_order : IsJoined 3 two_lists (record { lists = (Neutral ∷ []) ∷ (Neg ∷ []) ∷ []; nodes = 3 }) → ⊥
no_other_order is = omega (arith, ap (λ l. rank_of (charge_at (slice_index_or l 0 []) 0)) is.lists)

no_other_sum : IsJoined 3 two_lists (record { lists = (Neg ∷ []) ∷ (Neutral ∷ []) ∷ []; nodes = 2 }) → ⊥
no_other_sum is = omega (arith, is.nodes)

none_above_the_limit : IsJoined 2 two_lists (record { lists = (Neg ∷ []) ∷ (Neutral ∷ []) ∷ []; nodes = 3 }) → ⊥
none_above_the_limit is = omega (arith, is.within)
