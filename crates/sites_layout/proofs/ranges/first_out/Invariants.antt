use Rattle.std.proofs.Common.{take, All}
use Rattle.sites_layout.specs.SitesFaults.{IsLineInRange}
use Rattle.sites_layout.proofs.ranges.first_out.Given as goal

abbrev pub invariant-loop-i : goal.invariant-loop-i
invariant-loop-i l = All IsLineInRange (take l.i l.lines)
