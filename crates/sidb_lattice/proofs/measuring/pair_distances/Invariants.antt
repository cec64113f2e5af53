use Rattle.std.proofs.Common.{suc}
use Rattle.sidb_lattice.specs.Measured.{ArePairsUpto}
use Rattle.sidb_lattice.proofs.measuring.pair_distances.Given as goal

abbrev pub invariant-loop-i : goal.invariant-loop-i
invariant-loop-i l = ArePairsUpto l.layout l.i (suc l.i) l.distances.items

abbrev pub invariant-loop-j : goal.invariant-loop-j
invariant-loop-j l = ArePairsUpto l.layout l.i l.j l.distances.items
