use Rattle.std.proofs.Common.{take, All}
use Rattle.sidb_layout.specs.Site.{IsFixInRange}
use Rattle.sidb_layout.proofs.faults.first_fix_out.Given as goal

abbrev pub invariant-loop-a : goal.invariant-loop-a
invariant-loop-a l = All IsFixInRange (take l.a l.fixes)
