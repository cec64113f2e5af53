use Rattle.std.proofs.Common.{ℕ, arith, length-drop}
use Rattle.std.proofs.lemmas.List.{take_rest}
use Rattle.sidb_io.proofs.Taken.{took_more}
use Rattle.sidb_io.proofs.write_whole.write_all.Goals as goal

pub loop-at-preserved : goal.loop-at-preserved
loop-at-preserved g c = record {
  within = omega (arith, c.in_ok-at.ensures.ok.within, length-drop {A = ℕ});
  taken = took_more _ _ _ _ _ _ c.loop-at.invariant.taken (rw take_rest at c.in_ok-at.ensures.ok.took);
  same = omega (arith, c.loop-at.invariant.same, c.in_ok-at.ensures.counts);
}
