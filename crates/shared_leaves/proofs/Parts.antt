-- the parts of what begins with a prefix, from those of its children
use Rattle.std.proofs.Common.{◌≡◌, ◌≢◌, ◌+◌, ◌<◌, ℤ, List, [], ◌∷◌, ◌++◌, length, true, false, refl, sym, ap, subst, ◌∙◌, arith, Option, append_assoc}
use Rattle.std.specs.List.{AllZip, flat_map}
use Rattle.std.proofs.lemmas.Bool.{eq-eqb, ne_eqb}
use Rattle.std.proofs.lemmas.List.{append-nil}
use Rattle.std.proofs.lemmas.List.Concat.{flat_map-append}
use Rattle.std.proofs.lemmas.List.Elements.{All-nil, All-cons, All-append}
use Rattle.std.proofs.lemmas.List.Sums.{sum_by-cons, sum_by-append}
use Rattle.charge_model.specs.declared.charge.Charge.{Charge}
use Rattle.charge_model.specs.declared.charge.Charge.TheVariants.{Neg, Neutral, Pos}
use Rattle.charge_model.specs.Problem.{Problem}
use Rattle.charge_model.specs.Tree.{is_node}
use Rattle.tree_leaves.specs.Subtree.{IsPrefix, nodes_under, AreLeavesUnder}
use Rattle.tree_leaves.proofs.Counts.{count_closed, count_node}
use Rattle.tree_leaves.proofs.Branches.{leaves_closed, leaves_of_two, leaves_of_three}
use Rattle.shared_leaves.specs.declared.sharing.Share.{Share}
use Rattle.shared_leaves.specs.declared.sharing.Share.TheVariants.{Under, One}
use Rattle.shared_leaves.specs.Shares.{IsShare, nodes_of, AreLeavesOf, AreShares, IsSharedOut}

-- the leaves of parts that are put together are those of the first ones and those of the others
record IsSplit {X Y : Type 0} (R : X → Y → Type 0) (xs zs : List X) (ys : List Y) : Type 0 where
  first : List Y
  second : List Y
  joined : ys ≡ first ++ second
  left : AllZip R xs first
  right : AllZip R zs second

split : {X Y : Type 0} (R : X → Y → Type 0) (xs zs : List X) (ys : List Y) → AllZip R (xs ++ zs) ys → IsSplit R xs zs ys
split R [] zs ys h = record { first = []; second = ys; joined = refl; left = tt; right = h }
split R (x ∷ xs) zs [] h = absurd h
split R (x ∷ xs) zs (y ∷ ys) h =
    let rest = split R xs zs ys h.1 in
    record { first = y ∷ rest.first; second = rest.second; joined = ap (λ l. y ∷ l) rest.joined; left = (h.0, rest.left); right = rest.right }

pub closed_parts : (p : Problem) (o : Option ℤ) (q : List Charge) → is_node p o q ≡ false → AreShares p o q []
closed_parts p o q closed = record { prefixes = All-nil (IsShare p); nodes = sym (count_closed p o q closed); leaves = leaves }
  where
    leaves : (lists : List (List (List Charge))) → AllZip (AreLeavesOf p o) [] lists → AreLeavesUnder p o q (flat_map (λ l. l) lists)
    leaves [] h = leaves_closed p o q closed
    leaves (l ∷ lists) h = absurd h

pub one_part : (p : Problem) (o : Option ℤ) (q : List Charge) → IsPrefix p q → AreShares p o q (Under q ∷ [])
one_part p o q is = record {
  prefixes = All-cons (IsShare p) (Under q) [] is (All-nil (IsShare p));
  nodes = omega (arith, sum_by-cons (nodes_of p o) (Under q) []);
  leaves = leaves;
}
  where
    leaves : (lists : List (List (List Charge))) → AllZip (AreLeavesOf p o) (Under q ∷ []) lists → AreLeavesUnder p o q (flat_map (λ l. l) lists)
    leaves [] h = absurd h
    leaves (l ∷ []) h = subst (AreLeavesUnder p o q) (sym (append-nil l)) h.0
    leaves (l ∷ m ∷ lists) h = absurd h.1

two_parts : (p : Problem) (o : Option ℤ) (q : List Charge) (xs ys : List Share) → p.base ≡ 2 → length q < p.sites → is_node p o q ≡ true
    → AreShares p o (q ++ Neg ∷ []) xs → AreShares p o (q ++ Neutral ∷ []) ys → AreShares p o q (One ∷ (xs ++ ys))
two_parts p o q xs ys two room is first second = record {
  prefixes = All-cons (IsShare p) One (xs ++ ys) tt (All-append (IsShare p) xs ys first.prefixes second.prefixes);
  nodes =
      let count = count_node p o q room is in
      let beyond : nodes_under p o q ≡ nodes_under p o (q ++ Neg ∷ []) + (nodes_under p o (q ++ Neutral ∷ []) + 0) + 1 = rw (eq-eqb p.base 2 two) at count in
      omega (arith, beyond, sum_by-cons (nodes_of p o) One (xs ++ ys), sum_by-append (nodes_of p o) xs ys, first.nodes, second.nodes);
  leaves = leaves;
}
  where
    leaves : (lists : List (List (List Charge))) → AllZip (AreLeavesOf p o) (One ∷ (xs ++ ys)) lists → AreLeavesUnder p o q (flat_map (λ l. l) lists)
    leaves [] h = absurd h
    leaves (l ∷ lists) h =
        let parts = split (AreLeavesOf p o) xs ys lists h.1 in
        let joined : flat_map (λ l. l) (l ∷ lists) ≡ flat_map (λ l. l) parts.first ++ flat_map (λ l. l) parts.second =
        ap (λ k. k ++ flat_map (λ l. l) lists) h.0 ∙ ap (flat_map (λ l. l)) parts.joined ∙ flat_map-append (λ l. l) parts.first parts.second in
        subst (AreLeavesUnder p o q) (sym joined)
        (leaves_of_two p o q (flat_map (λ l. l) parts.first) (flat_map (λ l. l) parts.second) two room (first.leaves parts.first parts.left) (second.leaves parts.second parts.right) is)

three_parts : (p : Problem) (o : Option ℤ) (q : List Charge) (xs ys zs : List Share) → p.base ≢ 2 → length q < p.sites → is_node p o q ≡ true
    → AreShares p o (q ++ Neg ∷ []) xs → AreShares p o (q ++ Neutral ∷ []) ys → AreShares p o (q ++ Pos ∷ []) zs → AreShares p o q (One ∷ (xs ++ (ys ++ zs)))
three_parts p o q xs ys zs three room is first second third = record {
  prefixes = All-cons (IsShare p) One (xs ++ (ys ++ zs)) tt (All-append (IsShare p) xs (ys ++ zs) first.prefixes (All-append (IsShare p) ys zs second.prefixes third.prefixes));
  nodes =
      let count = count_node p o q room is in
      let beyond : nodes_under p o q ≡ nodes_under p o (q ++ Neg ∷ []) + (nodes_under p o (q ++ Neutral ∷ []) + nodes_under p o (q ++ Pos ∷ [])) + 1 = rw (ne_eqb p.base 2 three) at count in
      omega (arith, beyond, sum_by-cons (nodes_of p o) One (xs ++ (ys ++ zs)), sum_by-append (nodes_of p o) xs (ys ++ zs), sum_by-append (nodes_of p o) ys zs, first.nodes, second.nodes, third.nodes);
  leaves = leaves;
}
  where
    leaves : (lists : List (List (List Charge))) → AllZip (AreLeavesOf p o) (One ∷ (xs ++ (ys ++ zs))) lists → AreLeavesUnder p o q (flat_map (λ l. l) lists)
    leaves [] h = absurd h
    leaves (l ∷ lists) h =
        let parts = split (AreLeavesOf p o) xs (ys ++ zs) lists h.1 in
        let rest = split (AreLeavesOf p o) ys zs parts.second parts.right in
        let later : flat_map (λ l. l) parts.second ≡ flat_map (λ l. l) rest.first ++ flat_map (λ l. l) rest.second =
        ap (flat_map (λ l. l)) rest.joined ∙ flat_map-append (λ l. l) rest.first rest.second in
        let joined : flat_map (λ l. l) (l ∷ lists) ≡ flat_map (λ l. l) parts.first ++ (flat_map (λ l. l) rest.first ++ flat_map (λ l. l) rest.second) =
        ap (λ k. k ++ flat_map (λ l. l) lists) h.0 ∙ ap (flat_map (λ l. l)) parts.joined ∙ flat_map-append (λ l. l) parts.first parts.second ∙ ap (λ k. flat_map (λ l. l) parts.first ++ k) later in
        subst (AreLeavesUnder p o q) (sym joined)
        (leaves_of_three p o q (flat_map (λ l. l) parts.first) (flat_map (λ l. l) rest.first) (flat_map (λ l. l) rest.second) room
        (first.leaves parts.first parts.left) (second.leaves rest.first rest.left) (third.leaves rest.second rest.right) is)

-- the node itself, then what begins with its children
pub shared_two : (p : Problem) (o : Option ℤ) (q : List Charge) (a b c d : List Share) → p.base ≡ 2 → length q < p.sites → is_node p o q ≡ true
    → b ≡ a ++ One ∷ [] → IsSharedOut p o (q ++ Neg ∷ []) b c → IsSharedOut p o (q ++ Neutral ∷ []) c d → IsSharedOut p o q a d
shared_two p o q a b c d two room is pushed first second = record {
  more = One ∷ (first.more ++ second.more);
  added = second.added ∙ ap (λ l. l ++ second.more) (first.added ∙ ap (λ l. l ++ first.more) pushed)
      ∙ append_assoc (a ++ One ∷ []) first.more second.more ∙ append_assoc a (One ∷ []) (first.more ++ second.more);
  shares = two_parts p o q first.more second.more two room is first.shares second.shares;
}

pub shared_three : (p : Problem) (o : Option ℤ) (q : List Charge) (a b c d e : List Share) → p.base ≢ 2 → length q < p.sites → is_node p o q ≡ true
    → b ≡ a ++ One ∷ [] → IsSharedOut p o (q ++ Neg ∷ []) b c → IsSharedOut p o (q ++ Neutral ∷ []) c d → IsSharedOut p o (q ++ Pos ∷ []) d e → IsSharedOut p o q a e
shared_three p o q a b c d e three room is pushed first second third = record {
  more = One ∷ (first.more ++ (second.more ++ third.more));
  added = third.added ∙ ap (λ l. l ++ third.more) (second.added ∙ ap (λ l. l ++ second.more) (first.added ∙ ap (λ l. l ++ first.more) pushed))
      ∙ append_assoc ((a ++ One ∷ []) ++ first.more) second.more third.more ∙ append_assoc (a ++ One ∷ []) first.more (second.more ++ third.more)
      ∙ append_assoc a (One ∷ []) (first.more ++ (second.more ++ third.more));
  shares = three_parts p o q first.more second.more third.more three room is first.shares second.shares third.shares;
}
