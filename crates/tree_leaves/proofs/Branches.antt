-- the possibly valid lists that begin with a prefix, from those that begin with its children
use Rattle.std.proofs.Common.{◌≡◌, ◌≢◌, ℕ, zero, suc, ◌<◌, ◌≤◌, ℤ, List, [], ◌∷◌, ◌++◌, length, take, true, false, refl, sym, ap, subst, ◌∙◌, arith, Option, length-append, append_assoc}
use Rattle.std.specs.Prelude.{All, Contains, IsTrue, ◌↔◌}
use Rattle.std.proofs.lemmas.Bool.{false≢true}
use Rattle.std.proofs.lemmas.List.{append-nil, length-take}
use Rattle.std.proofs.lemmas.List.Elements.{All-append, All-weaker, All-contains, Contains-append_left, Contains-append_right}
use Rattle.charge_model.specs.declared.charge.Charge.{Charge}
use Rattle.charge_model.specs.declared.charge.Charge.TheVariants.{Neg, Neutral, Pos}
use Rattle.charge_model.specs.Charges.{IsBefore, IsOfBase, rank_of}
use Rattle.charge_model.specs.Problem.{Problem}
use Rattle.charge_model.specs.Rules.{IsChargeList, IsPossiblyValid}
use Rattle.charge_model.specs.GroundList.{IsCandidate}
use Rattle.charge_model.specs.Tree.{is_node, IsNode, IsInTree}
use Rattle.tree_leaves.specs.Subtree.{IsPrefix, IsPath, IsLeafUnder, AreLeavesUnder}
use Rattle.tree_leaves.specs.Leaves.{AreLeaves}
use Rattle.tree_leaves.proofs.Lists.{pairs_append, before_branch, branch_of_base, of_base-push}

path_begins : (p : Problem) (o : Option ℤ) (q rest : List Charge) → IsPath p o q rest → is_node p o q ≡ true
path_begins p o q [] h = h
path_begins p o q (x ∷ rest) h = h.0

pub leaves_closed : (p : Problem) (o : Option ℤ) (q : List Charge) → is_node p o q ≡ false → AreLeavesUnder p o q []
leaves_closed p o q h = record {
  in_order = λ i j d lt w. absurd (omega (arith, w));
  only = λ k d l. absurd (omega (arith, l));
  each = λ c leaf. absurd (false≢true (sym h ∙ path_begins p o q leaf.rest leaf.path));
}

-- a leaf under a full prefix is the prefix
rest_of_full : (p : Problem) (q c rest : List Charge) → length q ≡ p.sites → c ≡ q ++ rest → length c ≡ p.sites → rest ≡ []
rest_of_full p q c [] full begins whole = refl
rest_of_full p q c (x ∷ rest) full begins whole = absurd (omega (arith, length-append q (x ∷ rest), ap length begins))

same_as_full : (p : Problem) (o : Option ℤ) (q c : List Charge) → IsChargeList p q → IsLeafUnder p o q c → c ≡ q
same_as_full p o q c is leaf = leaf.begins ∙ ap (λ r. q ++ r) (rest_of_full p q c leaf.rest is.whole leaf.begins leaf.candidate.is_list.whole) ∙ append-nil q

pub leaves_kept : (p : Problem) (o : Option ℤ) (q : List Charge) → IsChargeList p q → is_node p o q ≡ true → IsPossiblyValid p q → AreLeavesUnder p o q (q ∷ [])
leaves_kept p o q is h possible = record {
  in_order = λ i j d lt w. absurd (omega (arith, w));
  only = λ k d l. only k d l;
  each = λ c leaf. (0, (omega arith), sym (same_as_full p o q c is leaf));
}
  where
    only : All (IsLeafUnder p o q) (q ∷ [])
    only zero d l = record { rest = []; begins = sym (append-nil q); path = h; candidate = record { is_list = is; possible = possible } }
    only (suc k) d l = absurd (omega arith)

pub leaves_dropped : (p : Problem) (o : Option ℤ) (q : List Charge) → IsChargeList p q → (IsPossiblyValid p q → ⊥) → AreLeavesUnder p o q []
leaves_dropped p o q is never = record {
  in_order = λ i j d lt w. absurd (omega (arith, w));
  only = λ k d l. absurd (omega (arith, l));
  each = λ c leaf. absurd (never (subst (IsPossiblyValid p) (same_as_full p o q c is leaf) leaf.candidate.possible));
}

leaf_up : (p : Problem) (o : Option ℤ) (q : List Charge) (x : Charge) → is_node p o q ≡ true → (c : List Charge) → IsLeafUnder p o (q ++ x ∷ []) c → IsLeafUnder p o q c
leaf_up p o q x h c leaf = record {
  rest = x ∷ leaf.rest;
  begins = leaf.begins ∙ append_assoc q (x ∷ []) leaf.rest;
  path = (h, leaf.path);
  candidate = leaf.candidate;
}

-- a leaf under a child comes before each leaf under a later child
across : (p : Problem) (o : Option ℤ) (q : List Charge) (a b : Charge) → rank_of a < rank_of b → (l m : List (List Charge)) → AreLeavesUnder p o (q ++ a ∷ []) l → AreLeavesUnder p o (q ++ b ∷ []) m
    → (c : List Charge) → Contains l c → All (IsBefore c) m
across p o q a b lt l m ls ms c held =
    let one = All-contains (IsLeafUnder p o (q ++ a ∷ [])) l c ls.only held in
    All-weaker (IsLeafUnder p o (q ++ b ∷ [])) (IsBefore c) (λ d two. at c d one two) m ms.only
  where
    at : (c d : List Charge) → IsLeafUnder p o (q ++ a ∷ []) c → IsLeafUnder p o (q ++ b ∷ []) d → IsBefore c d
    at c d one two = subst (λ z. IsBefore z d) (sym one.begins) (subst (IsBefore ((q ++ a ∷ []) ++ one.rest)) (sym two.begins) (before_branch q a b one.rest two.rest lt))

-- the child that a leaf under a prefix with room goes on to
record IsGoingOn (p : Problem) (o : Option ℤ) (q c : List Charge) : Type 0 where
  next : Charge
  leaf : IsLeafUnder p o (q ++ next ∷ []) c
  allowed : p.base ≡ 2 → next ≢ Pos

going_on : (p : Problem) (o : Option ℤ) (q c rest : List Charge) → length q < p.sites → c ≡ q ++ rest → IsPath p o q rest → IsCandidate p c → IsGoingOn p o q c
going_on p o q c [] room begins path is = absurd (omega (arith, ap length (begins ∙ append-nil q), is.is_list.whole))
going_on p o q c (x ∷ rest) room begins path is = record {
  next = x;
  leaf = record { rest = rest; begins = begins ∙ sym (append_assoc q (x ∷ []) rest); path = path.1; candidate = is };
  allowed = branch_of_base p.base q x rest (subst (IsOfBase p.base) begins is.is_list.of_base);
}

pub leaves_of_two : (p : Problem) (o : Option ℤ) (q : List Charge) (l m : List (List Charge)) → p.base ≡ 2 → length q < p.sites
    → AreLeavesUnder p o (q ++ Neg ∷ []) l → AreLeavesUnder p o (q ++ Neutral ∷ []) m → is_node p o q ≡ true → AreLeavesUnder p o q (l ++ m)
leaves_of_two p o q l m two room ls ms h = record {
  in_order = pairs_append IsBefore l m ls.in_order ms.in_order (across p o q Neg Neutral (omega arith) l m ls ms);
  only = All-append (IsLeafUnder p o q) l m (All-weaker _ (IsLeafUnder p o q) (leaf_up p o q Neg h) l ls.only) (All-weaker _ (IsLeafUnder p o q) (leaf_up p o q Neutral h) m ms.only);
  each = λ c leaf. let g = going_on p o q c leaf.rest room leaf.begins leaf.path leaf.candidate in held c g.next g.leaf (g.allowed two);
}
  where
    held : (c : List Charge) (x : Charge) → IsLeafUnder p o (q ++ x ∷ []) c → x ≢ Pos → Contains (l ++ m) c
    held c Neg leaf ne = Contains-append_left l m c (ls.each c leaf)
    held c Neutral leaf ne = Contains-append_right l m c (ms.each c leaf)
    held c Pos leaf ne = absurd (ne refl)

pub leaves_of_three : (p : Problem) (o : Option ℤ) (q : List Charge) (l m n : List (List Charge)) → length q < p.sites
    → AreLeavesUnder p o (q ++ Neg ∷ []) l → AreLeavesUnder p o (q ++ Neutral ∷ []) m → AreLeavesUnder p o (q ++ Pos ∷ []) n → is_node p o q ≡ true → AreLeavesUnder p o q (l ++ (m ++ n))
leaves_of_three p o q l m n room ls ms ns h = record {
  in_order = pairs_append IsBefore l (m ++ n) ls.in_order (pairs_append IsBefore m n ms.in_order ns.in_order (across p o q Neutral Pos (omega arith) m n ms ns))
      (λ c held. All-append (IsBefore c) m n (across p o q Neg Neutral (omega arith) l m ls ms c held) (across p o q Neg Pos (omega arith) l n ls ns c held));
  only = All-append (IsLeafUnder p o q) l (m ++ n) (All-weaker _ (IsLeafUnder p o q) (leaf_up p o q Neg h) l ls.only)
      (All-append (IsLeafUnder p o q) m n (All-weaker _ (IsLeafUnder p o q) (leaf_up p o q Neutral h) m ms.only) (All-weaker _ (IsLeafUnder p o q) (leaf_up p o q Pos h) n ns.only));
  each = λ c leaf. let g = going_on p o q c leaf.rest room leaf.begins leaf.path leaf.candidate in held c g.next g.leaf;
}
  where
    held : (c : List Charge) (x : Charge) → IsLeafUnder p o (q ++ x ∷ []) c → Contains (l ++ (m ++ n)) c
    held c Neg leaf = Contains-append_left l (m ++ n) c (ls.each c leaf)
    held c Neutral leaf = Contains-append_right l (m ++ n) c (Contains-append_left m n c (ms.each c leaf))
    held c Pos leaf = Contains-append_right l (m ++ n) c (Contains-append_right m n c (ns.each c leaf))

pub prefix_push : (p : Problem) (q : List Charge) (x : Charge) → IsPrefix p q → length q < p.sites → (p.base ≡ 2 → x ≢ Pos) → IsPrefix p (q ++ x ∷ [])
prefix_push p q x is room allowed = record { short = omega (arith, length-append q (x ∷ [])); of_base = of_base-push p.base q x is.of_base allowed }

pub full_prefix : (p : Problem) (q : List Charge) → IsPrefix p q → p.sites ≤ length q → IsChargeList p q
full_prefix p q is full = record { whole = omega arith; of_base = is.of_base }

-- the test of a node, tied to what a node is
abbrev pub IsTested : Problem → Option ℤ → Type 0
IsTested p o = (q : List Charge) → length q ≤ p.sites → IsTrue (is_node p o q) ↔ IsNode p o q

-- a path from the empty prefix is in the tree
nodes_of_path : (p : Problem) (o : Option ℤ) (q rest : List Charge) → IsPath p o q rest → (d : ℕ) → d ≤ length rest → is_node p o (q ++ take d rest) ≡ true
nodes_of_path p o q rest path zero h = ap (is_node p o) (append-nil q) ∙ path_begins p o q rest path
nodes_of_path p o q [] path (suc d) h = absurd (omega arith)
nodes_of_path p o q (x ∷ rest) path (suc d) h = ap (is_node p o) (sym (append_assoc q (x ∷ []) (take d rest))) ∙ nodes_of_path p o (q ++ x ∷ []) rest path.1 d (omega arith)

path_of_nodes : (p : Problem) (o : Option ℤ) (q rest : List Charge) → ((d : ℕ) → d ≤ length rest → is_node p o (q ++ take d rest) ≡ true) → IsPath p o q rest
path_of_nodes p o q [] nodes = sym (ap (is_node p o) (append-nil q)) ∙ nodes 0 (omega arith)
path_of_nodes p o q (x ∷ rest) nodes = (
  sym (ap (is_node p o) (append-nil q)) ∙ nodes 0 (omega arith),
  path_of_nodes p o (q ++ x ∷ []) rest (λ d h. ap (is_node p o) (append_assoc q (x ∷ []) (take d rest)) ∙ nodes (suc d) (omega arith)),
)

leaf_in_tree : (p : Problem) (o : Option ℤ) (c : List Charge) → IsTested p o → IsLeafUnder p o [] c → IsInTree p o c
leaf_in_tree p o c tested leaf = record {
  short = omega (arith, leaf.candidate.is_list.whole);
  of_base = leaf.candidate.is_list.of_base;
  nodes = λ m l.
      let node : is_node p o (take m c) ≡ true = ap (λ z. is_node p o (take m z)) leaf.begins ∙ nodes_of_path p o [] leaf.rest leaf.path m (omega (arith, l, ap length leaf.begins)) in
      (tested (take m c) (omega (arith, length-take m c, l, leaf.candidate.is_list.whole))).0 node;
}

tree_leaf : (p : Problem) (o : Option ℤ) (c : List Charge) → IsTested p o → IsCandidate p c → IsInTree p o c → IsLeafUnder p o [] c
tree_leaf p o c tested is tree = record {
  rest = c;
  begins = refl;
  path = path_of_nodes p o [] c (λ d h. (tested (take d c) (omega (arith, length-take d c, h, is.is_list.whole))).1 (tree.nodes d h));
  candidate = is;
}

pub leaves_of_root : (p : Problem) (o : Option ℤ) (l : List (List Charge)) → IsTested p o → AreLeavesUnder p o [] l → AreLeaves p o l
leaves_of_root p o l tested are = record {
  in_order = are.in_order;
  only = All-weaker (IsLeafUnder p o []) (λ c. IsCandidate p c × IsInTree p o c) (λ c leaf. (leaf.candidate, leaf_in_tree p o c tested leaf)) l are.only;
  each = λ c is tree. are.each c (tree_leaf p o c tested is tree);
}
