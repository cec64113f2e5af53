-- problems whose ground lists are at hand, and the problems whose lists they hold
use Rattle.std.specs.Prelude.{◌≡◌, ℕ, List}
use Rattle.charge_model.specs.Problem.{Problem}
use Rattle.charge_model.specs.GroundList.{Entry}
use Rattle.narrower_laws.specs.Narrower.{IsNarrower}

-- a problem, a limit of nodes, and entries
pub record ListedProblem : Type 0 where
  pub problem : Problem
  pub limit : ℕ
  pub list : List Entry

-- a problem is narrower, and is asked within the same limit
pub record IsWholeOf (whole : ListedProblem) (p : Problem) (limit : ℕ) : Type 0 where
  pub narrower : IsNarrower whole.problem p
  pub same : limit ≡ whole.limit
