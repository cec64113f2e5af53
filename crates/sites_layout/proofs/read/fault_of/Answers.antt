use Rattle.std.proofs.Common.{refl, arith}
use Rattle.sites_layout.proofs.read.fault_of.Goals as goal

pub returns-in-Some-first_clash : goal.returns-in-Some-first_clash
returns-in-Some-first_clash c = (
  record {
    in_range = c.requires.in_range;
    few_sites = omega (arith, c.requires.sites, c.if-sites-gt-MAX_SITES.false);
    few_fixes = omega (arith, c.requires.fixes, c.if-fixes-gt-MAX_FIXED.false);
  },
  c.in_default.ensures,
  (c.args.lattice, c.requires.lattice, (c.in-Some-first_clash.i, refl, (c.in-Some-first_clash.j, refl, c.in-Some-first_clash.ensures))),
)
