-- what visits add
use Rattle.std.proofs.Common.{◌≡◌, ◌≢◌, ℕ, ◌+◌, ◌<◌, ◌≤◌, ℤ, List, [], ◌∷◌, ◌++◌, length, true, false, sym, ap, ◌∙◌, arith, Option, append_assoc}
use Rattle.std.specs.Prelude.{Result, Ok, Err, IfOk, IsTrue, Bool, ◌↔◌}
use Rattle.std.proofs.lemmas.Bool.{eq-eqb, ne_eqb}
use Rattle.std.proofs.lemmas.List.{append-nil}
use Rattle.charge_model.specs.declared.charge.Charge.{Charge}
use Rattle.charge_model.specs.declared.charge.Charge.TheVariants.{Neg, Neutral, Pos}
use Rattle.charge_model.specs.Problem.{Problem}
use Rattle.charge_model.specs.Tree.{is_node}
use Rattle.tree_leaves.specs.declared.listing.FoundLists.{FoundLists}
use Rattle.tree_leaves.specs.Visits.{IsVisited, AreChildrenVisited, IsLeafKept}
use Rattle.tree_leaves.proofs.Counts.{count_closed, count_full, count_node}
use Rattle.tree_leaves.proofs.Branches.{leaves_closed, leaves_of_two, leaves_of_three}

pub within_same : {E : Type 0} (r : Result Bool E) (m n a b : ℕ) → ((m ≤ a) ↔ (n ≤ b)) → IfOk r (λ w. IsTrue w ↔ (m ≤ a)) → IfOk r (λ w. IsTrue w ↔ (n ≤ b))
within_same (Ok w) m n a b same h = (λ e. same.0 (h.0 e), λ e. h.1 (same.1 e))
within_same (Err e) m n a b same h = h

pub where_within : {E : Type 0} (r : Result Bool E) (P Q : Type 0) → (P → Q) → IfOk r (λ w. IsTrue w → P) → IfOk r (λ w. IsTrue w → Q)
where_within (Ok w) P Q f h = λ e. f (h e)
where_within (Err e) P Q f h = h

pub visited_closed : (p : Problem) (o : Option ℤ) (q : List Charge) (old : FoundLists) → is_node p o q ≡ false → IsVisited p o q old old
visited_closed p o q old closed = record {
  entered = omega (arith, count_closed p o q closed);
  more = [];
  lists = sym (append-nil old.lists.items);
  leaves = leaves_closed p o q closed;
}

-- a node with room: itself, and its children
pub visited_node : (p : Problem) (o : Option ℤ) (q : List Charge) (old entered new : FoundLists) → length q < p.sites → is_node p o q ≡ true
    → old.left ≡ entered.left + 1 → entered.lists.items ≡ old.lists.items → AreChildrenVisited p o q entered new → IsVisited p o q old new
visited_node p o q old entered new room is one same children = record {
  entered = omega (arith, count_node p o q room is, children.entered);
  more = children.more;
  lists = children.lists ∙ ap (λ l. l ++ children.more) same;
  leaves = children.leaves is;
}

-- a full prefix
pub visited_leaf : (p : Problem) (o : Option ℤ) (q : List Charge) (old entered new : FoundLists) → p.sites ≤ length q → is_node p o q ≡ true
    → old.left ≡ entered.left + 1 → entered.lists.items ≡ old.lists.items → IsLeafKept p o q entered new → IsVisited p o q old new
visited_leaf p o q old entered new full is one same kept = record {
  entered = omega (arith, count_full p o q full is, kept.left);
  more = kept.more;
  lists = kept.lists ∙ ap (λ l. l ++ kept.more) same;
  leaves = kept.leaves;
}

pub children_two : (p : Problem) (o : Option ℤ) (q : List Charge) (a b c : FoundLists) → p.base ≡ 2 → length q < p.sites
    → IsVisited p o (q ++ Neg ∷ []) a b → IsVisited p o (q ++ Neutral ∷ []) b c → AreChildrenVisited p o q a c
children_two p o q a b c two room first second = record {
  entered = rw (eq-eqb p.base 2 two) (omega (arith, first.entered, second.entered));
  more = first.more ++ second.more;
  lists = second.lists ∙ ap (λ l. l ++ second.more) first.lists ∙ append_assoc a.lists.items first.more second.more;
  leaves = λ is. leaves_of_two p o q first.more second.more two room first.leaves second.leaves is;
}

pub children_three : (p : Problem) (o : Option ℤ) (q : List Charge) (a b c d : FoundLists) → p.base ≢ 2 → length q < p.sites
    → IsVisited p o (q ++ Neg ∷ []) a b → IsVisited p o (q ++ Neutral ∷ []) b c → IsVisited p o (q ++ Pos ∷ []) c d → AreChildrenVisited p o q a d
children_three p o q a b c d three room first second third = record {
  entered = rw (ne_eqb p.base 2 three) (omega (arith, first.entered, second.entered, third.entered));
  more = first.more ++ (second.more ++ third.more);
  lists = third.lists ∙ ap (λ l. l ++ third.more) (second.lists ∙ ap (λ l. l ++ second.more) first.lists)
      ∙ append_assoc (a.lists.items ++ first.more) second.more third.more ∙ append_assoc a.lists.items first.more (second.more ++ third.more);
  leaves = λ is. leaves_of_three p o q first.more second.more third.more room first.leaves second.leaves third.leaves is;
}
