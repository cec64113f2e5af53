-- all charge lists that are possibly valid at some level of an interval
use Rattle.std.specs.Prelude.{List, All, AllPairs, Contains}
use Rattle.charge_model.specs.declared.charge.Charge.{Charge}
use Rattle.charge_model.specs.Charges.{IsBefore}
use Rattle.charge_model.specs.Problem.{Problem}
use Rattle.level_range_laws.specs.declared.interval.Interval.{Interval}
use Rattle.level_range_laws.specs.Levels.{IsCandidateIn}

-- in order, all lists that are possibly valid at some level of an interval, and no others
pub record AreAllCandidates (p : Problem) (levels : Interval) (lists : List (List Charge))
    : Type 0 where
  pub in_order : AllPairs IsBefore lists
  pub only : All (IsCandidateIn p levels) lists
  pub each : (c : List Charge) → IsCandidateIn p levels c → Contains lists c
