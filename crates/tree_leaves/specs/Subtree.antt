-- the part of a search tree that lies under one prefix
use Rattle.std.specs.Prelude.{◌≡◌, ℕ, ◌+◌, ◌-◌, ◌≤◌, ℤ, List, [], ◌∷◌, ◌++◌, length, IsTrue, Option, Some, None, ◌≤ℤ◌, All, AllPairs, Contains, ◌==◌, if◌then◌else◌}
use Rattle.charge_model.specs.declared.charge.Charge.{Charge}
use Rattle.charge_model.specs.declared.charge.Charge.TheVariants.{Neg, Neutral, Pos}
use Rattle.charge_model.specs.Charges.{IsBefore, IsOfBase}
use Rattle.charge_model.specs.Problem.{Problem}
use Rattle.charge_model.specs.GroundList.{IsCandidate}
use Rattle.charge_model.specs.Tree.{is_node, nodes_from}

-- charges of the base for at most all sites
pub record IsPrefix (p : Problem) (prefix : List Charge) : Type 0 where
  pub short : length prefix ≤ p.sites
  pub of_base : IsOfBase p.base prefix

-- how many members of the tree begin with a prefix, where its own shorter prefixes are members
unfoldable pub nodes_under : Problem → Option ℤ → List Charge → ℕ
nodes_under p threshold prefix = nodes_from p threshold (p.sites - length prefix) prefix

-- how many of them have one charge more at least
abbrev pub nodes_beyond : Problem → Option ℤ → List Charge → ℕ
nodes_beyond p threshold prefix = nodes_under p threshold (prefix ++ Neg ∷ [])
    + (nodes_under p threshold (prefix ++ Neutral ∷ [])
    + (if p.base == 2 then 0 else nodes_under p threshold (prefix ++ Pos ∷ [])))

-- the one threshold is at most the other, none being above all
abbrev pub IsThresholdAtMost : Option ℤ → Option ℤ → Type 0
IsThresholdAtMost a None = Unit {0}
IsThresholdAtMost None (Some y) = ⊥
IsThresholdAtMost (Some x) (Some y) = x ≤ℤ y

-- each prefix is a node, from this one on to this one with these charges after it
abbrev pub IsPath : Problem → Option ℤ → List Charge → List Charge → Type 0
IsPath p threshold prefix [] = IsTrue (is_node p threshold prefix)
IsPath p threshold prefix (c ∷ rest) = IsTrue (is_node p threshold prefix)
    × IsPath p threshold (prefix ++ c ∷ []) rest

-- a possibly valid list that begins with a prefix, from which on each prefix is a node
pub record IsLeafUnder (p : Problem) (threshold : Option ℤ) (prefix c : List Charge)
    : Type 0 where
  pub rest : List Charge
  pub begins : c ≡ prefix ++ rest
  pub path : IsPath p threshold prefix rest
  pub candidate : IsCandidate p c

-- in order, all such lists, and no others
pub record AreLeavesUnder (p : Problem) (threshold : Option ℤ) (prefix : List Charge)
    (lists : List (List Charge)) : Type 0 where
  pub in_order : AllPairs IsBefore lists
  pub only : All (IsLeafUnder p threshold prefix) lists
  pub each : (c : List Charge) → IsLeafUnder p threshold prefix c → Contains lists c
