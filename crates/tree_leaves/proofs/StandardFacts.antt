-- the leaves and the nodes of small problems, worked by hand
use Rattle.std.proofs.Common.{◌≡◌, ℕ, zero, suc, pos, neg_ℤ, List, [], ◌∷◌, length, refl, sym, arith, Some, None, false}
use Rattle.std.specs.Prelude.{All}
use Rattle.std.proofs.lemmas.Int.{ints}
use Rattle.std.proofs.lemmas.List.{length-take}
use Rattle.charge_model.specs.declared.charge.Charge.{Charge}
use Rattle.charge_model.specs.Problem.{Problem, class_of, near_class_of}
use Rattle.charge_model.specs.Rules.{at_site, by_hop, IsPossiblyValid}
use Rattle.charge_model.specs.GroundList.{IsCandidate}
use Rattle.charge_model.specs.Prefixes.{least_fixed, greatest_fixed, least_potential, greatest_potential, may_be_positive, can_be, least_known, greatest_known, site_low, pair_low, low}
use Rattle.charge_model.specs.Tree.{IsInTree, is_open, is_node, node_count}
use Rattle.tree_leaves.specs.Leaves.{AreLeaves}
use Rattle.tree_leaves.specs.Answer.{IsLeafList, IsListedUnder}
use Rattle.tree_leaves.specs.Subtree.{nodes_under, IsThresholdAtMost}
use Rattle.tree_leaves.proofs.Branches.{leaves_closed}

-- a problem of so many sites without classes
abbrev pub sites_apart : ℕ → Problem
sites_apart n = record {
  sites = n;
  base = 3;
  mu_minus = neg_ℤ (pos 320000000000);
  mu_plus = neg_ℤ (pos 910000000000);
  fixed_charges = [];
  pair_classes = [];
  near_classes = [];
  spans = [];
}

-- the empty prefix of one site and that it is negative; nothing else can be
one_site_nodes : nodes_under (sites_apart 1) (Some (pos 0)) [] ≡ 2
unfolding nodes_under is_node is_open low pair_low site_low least_known greatest_known can_be greatest_potential greatest_fixed may_be_positive least_potential least_fixed class_of near_class_of
one_site_nodes = refl

pub one_site_none_below : nodes_under (sites_apart 1) (Some (neg_ℤ (pos 1))) [] ≡ 0
unfolding nodes_under is_node is_open low pair_low site_low least_known greatest_known can_be greatest_potential greatest_fixed may_be_positive least_potential least_fixed class_of near_class_of
one_site_none_below = refl

pub one_site_no_node : is_node (sites_apart 1) (Some (neg_ℤ (pos 1))) [] ≡ false
unfolding is_node is_open low pair_low site_low least_known greatest_known can_be greatest_potential greatest_fixed may_be_positive least_potential least_fixed class_of near_class_of
one_site_no_node = refl

pub no_site_nodes : node_count (sites_apart 0) None ≡ 1
unfolding node_count is_node is_open
no_site_nodes = refl

lower_is_at_most : IsThresholdAtMost (Some (pos 1)) (Some (pos 2))
lower_is_at_most = omega (arith, ints)

-- no site has one list, the empty one
no_site_tree : IsInTree (sites_apart 0) None []
no_site_tree = record {
  short = omega arith;
  of_base = tt;
  nodes = λ m l. record { opens = record { assigned = λ k h. absurd (omega (arith, h, length-take {A = Charge} m [])); unassigned = λ k h less. absurd (omega (arith, less)) }; within = tt };
}

pub no_site_leaves : AreLeaves (sites_apart 0) None ([] ∷ [])
no_site_leaves = record {
  in_order = λ i j d lt w. absurd (omega (arith, w));
  only = only;
  each = λ c is tree. (0, omega arith, empty c is.is_list.whole);
}
  where
    possible : IsPossiblyValid (sites_apart 0) []
    possible (at_site i k) of_list = absurd (omega (arith, of_list.0))
    possible (by_hop i j) of_list = absurd (omega (arith, of_list.0))

    only : All (λ c. IsCandidate (sites_apart 0) c × IsInTree (sites_apart 0) None c) ([] ∷ [])
    only zero d l = (record { is_list = record { whole = refl; of_base = tt }; possible = possible }, no_site_tree)
    only (suc k) d l = absurd (omega (arith, l))

    empty : (c : List Charge) → length c ≡ 0 → [] ≡ c
    empty [] whole = refl
    empty (x ∷ c) whole = absurd (omega (arith, whole))

no_site_listed : IsLeafList (sites_apart 0) None 1 (record { lists = [] ∷ []; nodes = 1 })
no_site_listed = record { leaves = no_site_leaves; nodes = sym no_site_nodes; within = let one = no_site_nodes in omega (arith, one) }

-- of one site nothing begins with a prefix that is no node
no_leaf_below : IsListedUnder (sites_apart 1) (Some (neg_ℤ (pos 1))) [] 1 (record { lists = []; nodes = 0 })
no_leaf_below = record { leaves = leaves_closed (sites_apart 1) (Some (neg_ℤ (pos 1))) [] one_site_no_node; nodes = sym one_site_none_below; within = let none = one_site_none_below in omega (arith, none) }
