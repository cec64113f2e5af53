-- what a layout is seen as
use Rattle.sidb_layout.specs.Layout.{Arrangement, arrangement_of}
use Rattle.sidb_layout.specs.declared.layout.Layout.TheInside.{Inside}

-- the lattice, the sites and the fixed charges of the fields
abbrev pub arranged : Inside → Arrangement
arranged s = arrangement_of s.lattice s.sites.items s.fixes.items
