use Rattle.std.proofs.Common.{take}
use Rattle.sidb_lattice.specs.Measured.{ArePlaces}
use Rattle.sidb_lattice.proofs.measuring.places_in.Given as goal

abbrev pub invariant-loop-distance : goal.invariant-loop-distance
invariant-loop-distance l = ArePlaces l.distances (take l.distance-index l.wanted) l.places.items
