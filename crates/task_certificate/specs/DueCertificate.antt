-- a certificate that is due
use Rattle.std.specs.Prelude.{ℤ, List, Option}
use Rattle.charge_model.specs.Problem.{Problem}
use Rattle.charge_model.specs.GroundList.{Entry}

-- a problem, its ground list, and the least certain energy, in 10^-12 V, where there is one
pub record DueCertificate : Type 0 where
  pub problem : Problem
  pub entries : List Entry
  pub bound : Option ℤ
