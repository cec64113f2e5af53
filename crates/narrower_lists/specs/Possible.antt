-- which of some charge lists are possibly valid
use Rattle.std.specs.Prelude.{List, All, AllPairs, Contains}
use Rattle.charge_model.specs.declared.charge.Charge.{Charge}
use Rattle.charge_model.specs.Charges.{IsBefore}
use Rattle.charge_model.specs.Problem.{Problem}
use Rattle.charge_model.specs.Rules.{IsPossiblyValid}
use Rattle.candidate_marks.specs.declared.candidate.Candidate.{Candidate}
use Rattle.candidate_marks.specs.Candidates.{IsWeighed, lists_of_candidates}

-- in order and weighed, those of these lists that are possibly valid, and no others
pub record ArePossible (p : Problem) (lists : List (List Charge)) (xs : List Candidate)
    : Type 0 where
  pub in_order : AllPairs IsBefore (lists_of_candidates xs)
  pub weighed : All (IsWeighed p) xs
  pub only : All (Contains lists) (lists_of_candidates xs)
  pub each : All (λ c. IsPossiblyValid p c → Contains (lists_of_candidates xs) c) lists
