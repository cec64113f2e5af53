use Rattle.sites_layout.proofs.OneReading.{no_fault}
use Rattle.sites_layout.proofs.laws.no_fault.Goals as goal

pub returns : goal.returns
returns c = no_fault
