use Rattle.std.proofs.Common.{arith}
use Rattle.sidb_lattice.proofs.Rows.{pairs_more}
use Rattle.sidb_lattice.proofs.measuring.pair_distances.Goals as goal

pub loop-j-preserved : goal.loop-j-preserved
loop-j-preserved c =
    rw c.in_ok-push.ensures.items
    (pairs_more c.args.layout.now c.loop-i.i c.loop-j.j c.loop-j.distances.items c.pair_distance.result (omega arith) (omega arith)
    c.loop-j.invariant c.pair_distance.ensures.value c.pair_distance.ensures.in_range)
