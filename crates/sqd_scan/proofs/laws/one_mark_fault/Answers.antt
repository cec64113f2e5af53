use Rattle.sqd_scan.proofs.Unique.{one_fault}
use Rattle.sqd_scan.proofs.laws.one_mark_fault.Goals as goal

pub returns : goal.returns
returns c = one_fault
