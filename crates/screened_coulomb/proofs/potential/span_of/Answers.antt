use Rattle.std.proofs.Common.{w64}
use Rattle.std.proofs.lemmas.Int.{to_z-of_z}
use mir.Val.{SFits}
use Rattle.screened_coulomb.proofs.potential.span_of.Goals as goal

pub returns-clause-holds : goal.returns-clause-holds
returns-clause-holds c =
    let fits : SFits w64 c.args.d = c.ranges.d in
    let root = simp to_z-of_z at c.root40.ensures.root in
    c.rounded_span.ensures.holds _ root
