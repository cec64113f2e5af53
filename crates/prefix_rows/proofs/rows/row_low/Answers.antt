use Rattle.std.proofs.Common.{length, arith, sym, subst}
use Rattle.prefix_extremes.specs.Known.{IsAssigned}
use Rattle.prefix_rows.proofs.rows.row_low.Goals as goal

pub site_low_by_parts-requires : goal.site_low_by_parts-requires
site_low_by_parts-requires c = record {
  unassigned = c.requires.unassigned;
  short = omega (arith, c.requires.unassigned, c.requires.site);
  known = subst (IsAssigned c.args.problem.now c.args.prefix.now (length c.args.prefix.now) c.args.k) (sym c.row_extremes-known.ensures) (c.requires.row c.args.k c.requires.site);
  whole = c.row_whole-whole.ensures;
}
