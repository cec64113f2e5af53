use Rattle.sites_layout.proofs.OneReading.{one_fault}
use Rattle.sites_layout.proofs.laws.one_fault.Goals as goal

pub returns : goal.returns
returns c = one_fault
