use Rattle.std.proofs.Common.{arith}
use Rattle.sidb_lattice.proofs.Rows.{near_more}
use Rattle.sidb_lattice.proofs.measuring.near_distances.Goals as goal

pub loop-a-preserved : goal.loop-a-preserved
loop-a-preserved c =
    rw c.in_ok-push.ensures.items
    (near_more c.args.layout.now c.loop-i.i c.loop-a.a c.loop-a.distances.items c.near_distance.result (omega arith) (omega arith)
    c.loop-a.invariant c.near_distance.ensures.value c.near_distance.ensures.in_range)
