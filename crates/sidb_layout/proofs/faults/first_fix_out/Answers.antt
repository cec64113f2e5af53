use Rattle.std.proofs.Common.{arith, pos}
use Rattle.std.proofs.lemmas.List.{take_all}
use Rattle.std.proofs.lemmas.List.Elements.{All-more}
use Rattle.sidb_layout.specs.Site.{IsFixInRange, origin}
use Rattle.sidb_layout.proofs.faults.first_fix_out.Goals as goal

pub loop-a-preserved : goal.loop-a-preserved
loop-a-preserved c =
    All-more IsFixInRange c.args.fixes.now c.loop-a.a (record { site = origin; charge = pos 0 }) (omega arith) c.loop-a.invariant (c.is_in_range.ensures.0 c.if-not-is_in_range.false)

pub returns : goal.returns
returns c = let e = take_all c.loop-a.a c.args.fixes.now (omega arith) in rw e at c.loop-a.invariant
