use Rattle.std.proofs.Common.{rules, w64}
use Rattle.std.proofs.lemmas.Int.{to_z-of_z}
use mir.Val.{SFits}
use Rattle.screened_coulomb.proofs.LayoutLemmas.{charge_more}
use Rattle.screened_coulomb.proofs.layouts.fixed_charges.Goals as goal

pub loop-a-preserved : goal.loop-a-preserved
loop-a-preserved c =
    let fits : SFits w64 c.fix.result.charge = search rules in
    rw c.in_ok-push.ensures.items
    (simp to_z-of_z (charge_more c.args.layout.now.fixes c.loop-a.a c.fix.result c.loop-a.charges.items c.loop-a.invariant c.fix.ensures.value))
