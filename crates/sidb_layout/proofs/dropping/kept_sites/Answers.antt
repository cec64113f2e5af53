use Rattle.std.proofs.Common.{arith}
use Rattle.sidb_layout.proofs.Kept.{kept_pushed, kept_passed}
use Rattle.sidb_layout.proofs.dropping.kept_sites.Goals as goal
use Rattle.sidb_layout.proofs.dropping.kept_sites.Goals.{then-stays+in_ok-push, else-stays}

pub loop-k-preserved : goal.loop-k-preserved
loop-k-preserved c =
    elim c.if-stays.branch [
      | then-stays+in_ok-push w ↦
          rw w.kept-is (kept_pushed c.args.gone.now c.args.sites.now c.loop-k.kept.items _ c.loop-k.k c.stays.result (omega arith)
          c.stays.ensures w.if-stays.true c.loop-k.invariant w.in_ok-push.ensures.items)
      | else-stays w ↦
          rw w.kept-is (kept_passed c.args.gone.now c.args.sites.now c.loop-k.kept.items c.loop-k.k c.stays.result (omega arith)
          c.stays.ensures w.if-stays.false c.loop-k.invariant)
    ]
