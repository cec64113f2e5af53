use Rattle.sidb_layout.proofs.Stays.{stays}
use Rattle.sidb_layout.proofs.laws.the_other_sites_stay.Goals as goal

pub returns : goal.returns
returns c = stays
