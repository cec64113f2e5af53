use Rattle.std.proofs.Common.{arith, rules, w64}
use Rattle.std.proofs.lemmas.Int.{to_z-of_z}
use mir.Val.{SFits}
use Rattle.screened_coulomb.proofs.SizeLemmas.{divisor_least}
use Rattle.screened_coulomb.proofs.rounding.quotient_up.Goals as goal

pub mul_div_up-requires-clause-divisor : goal.mul_div_up-requires-clause-divisor
mul_div_up-requires-clause-divisor c =
    let fits : SFits w64 c.args.p.now.eps = search rules in
    let eps = simp to_z-of_z at c.whole-2.ensures in
    rw eps (omega (arith, divisor_least c.args.p.now c.args.root c.requires.least))
