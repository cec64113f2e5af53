use Rattle.std.proofs.Common.{◌≡◌, Ok, Err}
use Rattle.sidb_layout.specs.declared.fault.LayoutFault.TheVariants.{Memory}
use Rattle.sidb_layout.proofs.OneRefusal.{refused_exactly, fine_exactly}
use Rattle.sidb_layout.proofs.making.layout_on.Goals as goal

pub returns-in-Some-clause-refused : goal.returns-in-Some-clause-refused
returns-in-Some-clause-refused c =
    refused_exactly c.args.lattice c.args.sites.now c.args.fixes.now c.in-Some.fault c.in-Some.ensures

pub returns-in-Ok-clause-refused : goal.returns-in-Ok-clause-refused
returns-in-Ok-clause-refused c =
    fine_exactly c.args.lattice c.args.sites.now c.args.fixes.now (Ok c.in-Ok.layout) c.in_default.ensures (λ f ne e. cc e)

pub returns-in-Err-clause-refused : goal.returns-in-Err-clause-refused
returns-in-Err-clause-refused c =
    fine_exactly c.args.lattice c.args.sites.now c.args.fixes.now (Err Memory) c.in_default.ensures
    (λ f ne e. ne (let same : f ≡ Memory = cc e in same))
