use Rattle.std.proofs.Common.{◌≡◌, arith}
use Rattle.sidb_layout.specs.Site.{places_of}
use Rattle.sidb_layout.proofs.Firsts.{at_each_default}
use Rattle.sidb_layout.proofs.faults.fault_of.Goals as goal

pub returns-in-Some-first_pair-2 : goal.returns-in-Some-first_pair-2
returns-in-Some-first_pair-2 c = (
  record { in_range = c.in_default.ensures; few_sites = omega arith; few_fixes = omega arith },
  at_each_default (λ a b. a ≡ b) (places_of c.args.sites.now c.args.fixes.now) c.in_default-first_pair.ensures,
  c.in-Some-first_pair-2.ensures,
)
