use Rattle.sqd_scan.proofs.Unique.{no_fault}
use Rattle.sqd_scan.proofs.laws.no_mark_fault.Goals as goal

pub returns : goal.returns
returns c = no_fault
