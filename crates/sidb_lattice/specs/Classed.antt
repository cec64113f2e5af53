-- what the classes of a layout are seen as
use Rattle.sidb_lattice.specs.Classes.{Classing, classing_of}
use Rattle.sidb_lattice.specs.declared.classes.Classes.TheInside.{Inside}

-- the counts, the distances and the classes of the fields
abbrev pub classed : Inside → Classing
classed s =
    classing_of s.sites s.fixes s.distances.items s.pair_classes.items s.near_classes.items
