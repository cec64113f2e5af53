-- the fields of a certificate that is due
use Rattle.std.specs.Prelude.{ℤ, ◌≤◌, List, Option}
use Rattle.charge_model.specs.Problem.{Problem}
use Rattle.charge_model.specs.GroundList.{Entry, IsMarkedGroundList}
use Rattle.charge_model.specs.Tree.{IsLeastCertain, node_count}
use Rattle.sidb_units.specs.declared.TheConstants.{MAX_NODES}
use Rattle.task_certificate.specs.declared.certificate.CertificateDue.TheInside.{Inside}
use Rattle.task_certificate.specs.DueCertificate.{DueCertificate}

-- what the fields stand for
abbrev pub seen : Inside → DueCertificate
seen s = record { problem = s.problem.now; entries = s.list; bound = s.bound }

-- the list is the marked ground list, the bound is the least certain energy, and the search tree
-- under it has few enough nodes
pub record IsDueCertificate (s : Inside) : Type 0 where
  pub list : IsMarkedGroundList s.problem.now s.list
  pub bound : IsLeastCertain s.problem.now s.bound
  pub few : node_count s.problem.now s.bound ≤ MAX_NODES
