use Rattle.sidb_lattice.proofs.Apart.{site_in_range, fix_in_range, near_apart, cast_read}
use Rattle.sidb_lattice.proofs.measuring.near_distance.Goals as goal

pub squared_distance_on-requires-clause-a : goal.squared_distance_on-requires-clause-a
squared_distance_on-requires-clause-a c =
    rw c.site.ensures (site_in_range c.args.layout.now c.args.i c.len-sites.ensures.layout (c.requires.i))

pub squared_distance_on-requires-clause-b : goal.squared_distance_on-requires-clause-b
squared_distance_on-requires-clause-b c =
    rw c.fix.ensures.place (fix_in_range c.args.layout.now c.args.a c.len-sites.ensures.layout c.requires.a)

pub returns-clause-in_range : goal.returns-clause-in_range
returns-clause-in_range c =
    let measured = c.squared_distance_on.ensures in
    rw (cast_read c.squared_distance_on.result _ measured.value measured.within) (record {
      least = rw (c.lattice.ensures, c.site.ensures, c.fix.ensures.place) (near_apart c.args.layout.now c.args.i c.args.a c.len-sites.ensures.layout c.requires.i c.requires.a);
      greatest = measured.within;
    })
