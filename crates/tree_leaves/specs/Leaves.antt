-- the possibly valid lists of a search tree
use Rattle.std.specs.Prelude.{ℕ, ℤ, List, Option, All, AllPairs, Contains}
use Rattle.charge_model.specs.declared.charge.Charge.{Charge}
use Rattle.charge_model.specs.Charges.{IsBefore}
use Rattle.charge_model.specs.Problem.{Problem}
use Rattle.charge_model.specs.GroundList.{IsCandidate}
use Rattle.charge_model.specs.Tree.{IsInTree}

-- charge lists, and how many nodes the tree has in which they were found
pub record Leaves : Type 0 where
  pub lists : List (List Charge)
  pub nodes : ℕ

-- in order, all possibly valid lists in the tree, and no others
pub record AreLeaves (p : Problem) (bound : Option ℤ) (lists : List (List Charge)) : Type 0 where
  pub in_order : AllPairs IsBefore lists
  pub only : All (λ c. IsCandidate p c × IsInTree p bound c) lists
  pub each : (c : List Charge) → IsCandidate p c → IsInTree p bound c → Contains lists c
