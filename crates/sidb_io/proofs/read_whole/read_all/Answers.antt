use Rattle.sidb_io.proofs.Taken.{gave_more}
use Rattle.sidb_io.proofs.read_whole.read_all.Goals as goal

pub returns-then-is_err-clause-gone : goal.returns-then-is_err-clause-gone
returns-then-is_err-clause-gone g c = (_, gave_more _ _ _ _ _ c.loop-block.invariant.given c.in-Ok.ensures.ok.gave)
