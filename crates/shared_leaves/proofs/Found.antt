-- what is found of the parts of a tree is found of the tree
use Rattle.std.proofs.Common.{Bor, ◌≡◌, ℕ, zero, suc, ◌<◌, ℤ, List, [], ◌∷◌, ◌++◌, length, map, refl, sym, ap, subst, ◌∙◌, arith, Option, Ok, Err}
use Rattle.std.specs.Prelude.{MatchResult, Contains, Result, sum_by, slice_index_or}
use Rattle.std.specs.List.{AllZip, flat_map}
use Rattle.std.proofs.lemmas.List.Sums.{sum_by-cons}
use Rattle.rayon.proofs.ToStd.{slice-AllZip}
use Rattle.charge_model.specs.Problem.{Problem}
use Rattle.charge_model.specs.Tree.{node_count}
use Rattle.tree_leaves.specs.Leaves.{Leaves}
use Rattle.tree_leaves.specs.Answer.{IsLeafList}
use Rattle.tree_leaves.specs.Subtree.{AreLeavesUnder}
use Rattle.tree_leaves.proofs.Counts.{count_root}
use Rattle.tree_leaves.proofs.Branches.{IsTested, leaves_of_root}
use Rattle.shared_leaves.specs.declared.sharing.Share.{Share}
use Rattle.shared_leaves.specs.declared.joining.Missed.{Missed}
use Rattle.shared_leaves.specs.declared.joining.Missed.TheVariants.{Budget, Stopped, Memory}
use Rattle.shared_leaves.specs.Shares.{nodes_of, AreLeavesOf, AreShares}
use Rattle.shared_leaves.specs.Finds.{AreFound, IsFoundOf, IsMissed, IsJoined}

module _ (p : Problem) (o : Option ℤ) (limit : ℕ) where
  -- where each result is there, each stands for its own part
  all_there : (xs : List Share) (ys : List Leaves) → AllZip (IsFoundOf p o limit) xs (map Ok ys) → AllZip (AreFound p o) xs ys
  all_there [] [] h = tt
  all_there [] (y ∷ ys) h = absurd h
  all_there (x ∷ xs) [] h = absurd h
  all_there (x ∷ xs) (y ∷ ys) h = (h.0, all_there xs ys h.1)

  -- one part that is above the limit is enough
  over_at : (xs : List Share) (rs : List (Result Leaves Missed)) (k : ℕ) (d : Result Leaves Missed) → AllZip (IsFoundOf p o limit) xs rs → k < length rs → slice_index_or rs k d ≡ Err Budget
      → limit < sum_by (nodes_of p o) xs
  over_at xs [] k d h low is = absurd (omega (arith, low))
  over_at [] (r ∷ rs) k d h low is = absurd h
  over_at (x ∷ xs) (r ∷ rs) zero d h low is =
      let over : limit < nodes_of p o x = subst (IsFoundOf p o limit x) is h.0 in omega (arith, over, sum_by-cons (nodes_of p o) x xs)
  over_at (x ∷ xs) (r ∷ rs) (suc k) d h low is =
      let rest = over_at xs rs k d h.1 (omega arith) is in omega (arith, rest, sum_by-cons (nodes_of p o) x xs)

  missed_of : (xs : List Share) (rs : List (Result Leaves Missed)) (e : Missed) → AllZip (IsFoundOf p o limit) xs rs → Contains rs (Err e) → IsMissed p o limit xs e
  missed_of xs rs Budget h held = over_at xs rs held.0 (Err Budget) h held.1 held.2
  missed_of xs rs Stopped h held = tt
  missed_of xs rs Memory h held = tt

  -- what was gathered out of the references to a slice
  pub gathered : {V : Type 0} (items : V → List Leaves) (answer : Result V Missed) (zs : List (Bor Share)) (xs : List Share) (rs : List (Result Leaves Missed))
      → map (λ (z : Bor Share). z.now) zs ≡ xs
      → AllZip (λ (z : Bor Share) r. IsFoundOf p o limit z.now r) zs rs
      → MatchResult answer (λ v. (ys : List Leaves) × (rs ≡ map Ok ys) × (items v ≡ ys)) (λ e. Contains rs (Err e))
      → MatchResult answer (λ v. AllZip (AreFound p o) xs (items v)) (IsMissed p o limit xs)
  gathered items (Ok v) zs xs rs shown each found =
      let results = slice-AllZip zs xs shown (IsFoundOf p o limit) rs each in
      subst (AllZip (AreFound p o) xs) (sym found.2) (all_there xs found.0 (subst (AllZip (IsFoundOf p o limit) xs) found.1 results))
  gathered items (Err e) zs xs rs shown each found = missed_of xs rs e (slice-AllZip zs xs shown (IsFoundOf p o limit) rs each) found

  found_leaves : (xs : List Share) (ys : List Leaves) → AllZip (AreFound p o) xs ys → AllZip (AreLeavesOf p o) xs (map (λ (l : Leaves). l.lists) ys)
  found_leaves [] [] h = tt
  found_leaves [] (y ∷ ys) h = absurd h
  found_leaves (x ∷ xs) [] h = absurd h
  found_leaves (x ∷ xs) (y ∷ ys) h = (h.0.leaves, found_leaves xs ys h.1)

  found_nodes : (xs : List Share) (ys : List Leaves) → AllZip (AreFound p o) xs ys → sum_by (λ (l : Leaves). l.nodes) ys ≡ sum_by (nodes_of p o) xs
  found_nodes [] [] h = refl
  found_nodes [] (y ∷ ys) h = absurd h
  found_nodes (x ∷ xs) [] h = absurd h
  found_nodes (x ∷ xs) (y ∷ ys) h =
      let here = h.0.nodes in let rest = found_nodes xs ys h.1 in
      omega (arith, here, rest, sum_by-cons (nodes_of p o) x xs, sum_by-cons (λ (l : Leaves). l.nodes) y ys)

  flat_lists : (ys : List Leaves) → flat_map (λ (l : Leaves). l.lists) ys ≡ flat_map (λ l. l) (map (λ (l : Leaves). l.lists) ys)
  flat_lists [] = refl
  flat_lists (y ∷ ys) = ap (λ l. y.lists ++ l) (flat_lists ys)

  module _ (shares : List Share) (are : AreShares p o [] shares) where
    -- the parts have the nodes of the tree
    pub over_tree : limit < sum_by (nodes_of p o) shares → limit < node_count p o
    over_tree over = let root = count_root p o in let same = are.nodes in omega (arith, over, root, same)

    pub over_parts : (parts : List Leaves) → AllZip (AreFound p o) shares parts → limit < sum_by (λ (l : Leaves). l.nodes) parts → limit < node_count p o
    over_parts parts found over = let same = found_nodes shares parts found in over_tree (omega (arith, over, same))

    -- and their leaves are its leaves
    pub joined_tree : (parts : List Leaves) (l : Leaves) → IsTested p o → AllZip (AreFound p o) shares parts → IsJoined limit parts l → IsLeafList p o limit l
    joined_tree parts l tested found joined =
        let root = count_root p o in
        let nodes : l.nodes ≡ node_count p o = joined.nodes ∙ found_nodes shares parts found ∙ are.nodes ∙ root in
        record {
          leaves = leaves_of_root p o l.lists tested
              (subst (AreLeavesUnder p o []) (sym (joined.lists ∙ flat_lists parts)) (are.leaves (map (λ (l : Leaves). l.lists) parts) (found_leaves shares parts found)));
          nodes = nodes;
          within = let within = joined.within in omega (arith, nodes, within);
        }
