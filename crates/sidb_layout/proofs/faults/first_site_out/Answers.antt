use Rattle.std.proofs.Common.{arith}
use Rattle.std.proofs.lemmas.List.{take_all}
use Rattle.std.proofs.lemmas.List.Elements.{All-more}
use Rattle.sidb_layout.specs.Site.{IsInRange, origin}
use Rattle.sidb_layout.proofs.faults.first_site_out.Goals as goal

pub loop-i-preserved : goal.loop-i-preserved
loop-i-preserved c =
    All-more IsInRange c.args.sites.now c.loop-i.i origin (omega arith) c.loop-i.invariant (c.is_in_range.ensures.0 c.if-not-is_in_range.false)

pub returns : goal.returns
returns c = let e = take_all c.loop-i.i c.args.sites.now (omega arith) in rw e at c.loop-i.invariant
