use Rattle.std.proofs.Common.{take, All}
use Rattle.sidb_layout.specs.Site.{IsInRange}
use Rattle.sidb_layout.proofs.faults.first_site_out.Given as goal

abbrev pub invariant-loop-i : goal.invariant-loop-i
invariant-loop-i l = All IsInRange (take l.i l.sites)
