-- the parts into which a search tree is shared out
use Rattle.std.specs.Prelude.{◌≡◌, ℕ, ℤ, List, [], ◌++◌, All, Option, sum_by}
use Rattle.std.specs.List.{AllZip, flat_map}
use Rattle.charge_model.specs.declared.charge.Charge.{Charge}
use Rattle.charge_model.specs.Problem.{Problem}
use Rattle.tree_leaves.specs.Subtree.{IsPrefix, nodes_under, AreLeavesUnder}
use Rattle.shared_leaves.specs.declared.sharing.Share.{Share}
use Rattle.shared_leaves.specs.declared.sharing.Share.TheVariants.{Under, One}

-- the prefix of a part is one of the problem
abbrev pub IsShare : Problem → Share → Type 0
IsShare p (Under prefix) = IsPrefix p prefix
IsShare p One = Unit {0}

-- how many nodes a part has
abbrev pub nodes_of : Problem → Option ℤ → Share → ℕ
nodes_of p threshold (Under prefix) = nodes_under p threshold prefix
nodes_of p threshold One = 1

-- in order, the possibly valid lists of a part; a node that has room is no list
abbrev pub AreLeavesOf : Problem → Option ℤ → Share → List (List Charge) → Type 0
AreLeavesOf p threshold (Under prefix) lists = AreLeavesUnder p threshold prefix lists
AreLeavesOf p threshold One lists = lists ≡ []

-- the parts of what begins with a prefix: they have its nodes, and their leaves, one part after
-- the other, are its leaves
pub record AreShares (p : Problem) (threshold : Option ℤ) (prefix : List Charge)
    (shares : List Share) : Type 0 where
  pub prefixes : All (IsShare p) shares
  pub nodes : sum_by (nodes_of p threshold) shares ≡ nodes_under p threshold prefix
  pub leaves : (lists : List (List (List Charge)))
      → AllZip (AreLeavesOf p threshold) shares lists
      → AreLeavesUnder p threshold prefix (flat_map (λ l. l) lists)

-- the parts of what begins with a prefix are added
pub record IsSharedOut (p : Problem) (threshold : Option ℤ) (prefix : List Charge)
    (old new : List Share) : Type 0 where
  pub more : List Share
  pub added : new ≡ old ++ more
  pub shares : AreShares p threshold prefix more
