use Rattle.std.proofs.Common.{arith}
use Rattle.std.proofs.lemmas.List.{take_all}
use Rattle.std.proofs.lemmas.List.Elements.{All-more}
use Rattle.sites_layout.specs.declared.line.SitesLine.TheVariants.{Empty}
use Rattle.sites_layout.specs.SitesFaults.{IsLineInRange}
use Rattle.sites_layout.proofs.ranges.first_out.Goals as goal

pub loop-i-preserved : goal.loop-i-preserved
loop-i-preserved c =
    All-more IsLineInRange c.args.lines.now c.loop-i.i Empty (omega arith) c.loop-i.invariant (c.is_in_range.ensures.0 c.if-not-is_in_range.false)

pub returns : goal.returns
returns c = let e = take_all c.loop-i.i c.args.lines.now (omega arith) in rw e at c.loop-i.invariant
