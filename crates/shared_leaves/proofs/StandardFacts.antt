-- parts of small trees, and lists that are joined, worked by hand
use Rattle.std.proofs.Common.{pos, neg_ℤ, List, [], ◌∷◌, refl, arith, Some, None}
use Rattle.charge_model.specs.declared.charge.Charge.TheVariants.{Neg, Neutral}
use Rattle.tree_leaves.specs.Leaves.{Leaves}
use Rattle.tree_leaves.proofs.StandardFacts.{sites_apart, one_site_no_node}
use Rattle.shared_leaves.specs.declared.sharing.Share.TheVariants.{Under, One}
use Rattle.shared_leaves.specs.Shares.{AreShares}
use Rattle.shared_leaves.specs.Finds.{AreFound, IsJoined}
use Rattle.shared_leaves.proofs.Parts.{closed_parts, one_part}

-- the tree of no sites is one part, a tree without nodes has none
no_site_parts : AreShares (sites_apart 0) None [] (Under [] ∷ [])
no_site_parts = one_part (sites_apart 0) None [] (record { short = omega arith; of_base = tt })

no_node_no_parts : AreShares (sites_apart 1) (Some (neg_ℤ (pos 1))) [] []
no_node_no_parts = closed_parts (sites_apart 1) (Some (neg_ℤ (pos 1))) [] one_site_no_node

-- a node that has room counts for itself
one_is_one : AreFound (sites_apart 1) None One (record { lists = []; nodes = 1 })
one_is_one = record { leaves = refl; nodes = refl }

abbrev pub two_lists : List Leaves
two_lists = record { lists = (Neg ∷ []) ∷ []; nodes = 2 } ∷ record { lists = (Neutral ∷ []) ∷ []; nodes = 1 } ∷ []

two_are_joined : IsJoined 3 two_lists (record { lists = (Neg ∷ []) ∷ (Neutral ∷ []) ∷ []; nodes = 3 })
two_are_joined = record { lists = refl; nodes = refl; within = omega arith }
