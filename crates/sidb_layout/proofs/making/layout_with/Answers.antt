use Rattle.sidb_layout.specs.declared.fault.LayoutFault.TheVariants.{TooClose}
use Rattle.sidb_layout.proofs.Silicon.{never_too_close}
use Rattle.sidb_layout.proofs.making.layout_with.Goals as goal

pub returns-clause-never_too_close : goal.returns-clause-never_too_close
returns-clause-never_too_close c i j e =
    let refused = (c.layout_on.ensures.refused (TooClose i j) (λ h. cc h)).0 e in
    never_too_close c.args.sites.now c.args.fixes.now i j (rw c.default_lattice.ensures at refused)
