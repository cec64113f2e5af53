use Rattle.std.proofs.Common.{sym}
use Rattle.sites_layout.proofs.WholeText.{in_reach}
use Rattle.sites_layout.proofs.ranges.lattice_in.Goals as goal

pub unwrap-requires : goal.unwrap-requires
unwrap-requires c =
    c.lattice_from.ensures.none.1 (in_reach c.args.lines.now c.in-Some.vectors c.requires (sym c.in-Some.ensures))
