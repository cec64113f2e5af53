use Rattle.sidb_lattice.specs.Measured.{AreNearUpto}
use Rattle.sidb_lattice.proofs.measuring.near_distances.Given as goal

abbrev pub invariant-loop-i : goal.invariant-loop-i
invariant-loop-i l = AreNearUpto l.layout l.i 0 l.distances.items

abbrev pub invariant-loop-a : goal.invariant-loop-a
invariant-loop-a l = AreNearUpto l.layout l.i l.a l.distances.items
