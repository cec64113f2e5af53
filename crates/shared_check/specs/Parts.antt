-- parts of the search tree, and how its nodes are shared out
use Rattle.std.specs.Prelude.{◌≡◌, ◌≢◌, ℕ, ◌+◌, ◌-◌, ◌^◌, ◌<◌, ◌≤◌, ℤ, List, [], ◌∷◌, ◌++◌, length, sum_by, Option, IfSome}
use Rattle.charge_model.specs.declared.charge.Charge.{Charge}
use Rattle.charge_model.specs.declared.charge.Charge.TheVariants.{Neg, Neutral, Pos}
use Rattle.charge_model.specs.Problem.{Problem}
use Rattle.certificate_model.specs.declared.token.Token.{Token}
use Rattle.tree_leaves.specs.Subtree.{IsPrefix, nodes_under, nodes_beyond}
use Rattle.written_tokens.specs.Guiding.{Guiding}
use Rattle.certificate_walk.specs.Walking.{IsWalkOf}

-- what tokens go by is made of these
pub record IsGuideOf (p : Problem) (window : ℤ) (threshold : Option ℤ) (l : List (List Charge))
    (g : Guiding) : Type 0 where
  pub problem : g.problem ≡ p
  pub width : g.window ≡ window
  pub most : g.threshold ≡ threshold
  pub lists : g.lists ≡ l

-- what begins with a prefix is a part of the tree: it has tokens, and few of them
pub record IsPart (g : Guiding) (q : List Charge) : Type 0 where
  pub prefix : IsPrefix g.problem q
  pub few : nodes_under g.problem g.threshold q < 2 ^ 64
  pub tokens : List Token
  pub walk : IsWalkOf g q tokens
  pub fits : length tokens ≤ 2 ^ 64 - 1

-- the parts of the prefixes with one more charge
pub record ArePartsBelow (g : Guiding) (prefix : List Charge) : Type 0 where
  pub few : nodes_beyond g.problem g.threshold prefix < 2 ^ 64
  pub negative : IsPart g (prefix ++ Neg ∷ [])
  pub neutral : IsPart g (prefix ++ Neutral ∷ [])
  pub positive : g.problem.base ≢ 2 → IsPart g (prefix ++ Pos ∷ [])

-- the nodes of tasks
abbrev pub nodes_in : Guiding → List (List Charge) → ℕ
nodes_in g tasks = sum_by (λ q. nodes_under g.problem g.threshold q) tasks

-- of these nodes some are counted, and the others are those of the tasks that were added
pub record AreSharedOut (g : Guiding) (nodes few : ℕ) (old new : List (List Charge))
    : Type 0 where
  pub sum : nodes + nodes_in g old ≡ few + nodes_in g new
  pub within : few ≤ nodes

-- a count of the nodes of a part is right, where there is one
abbrev pub IsCountOf : Guiding → List Charge → Option ℕ → Type 0
IsCountOf g prefix o = IfSome o (λ n. n ≡ nodes_under g.problem g.threshold prefix)
