use Rattle.sidb_lattice.proofs.Exists.{some_classes}
use Rattle.sidb_lattice.proofs.laws.each_layout_has_classes.Goals as goal

pub returns : goal.returns
returns c = some_classes
