use Rattle.std.proofs.Common.{length, sym, subst}
use Rattle.prefix_extremes.specs.Known.{IsAssigned, IsUnassigned}
use Rattle.prefix_rows.proofs.rows.row_whole.Goals as goal

pub whole_extremes-requires : goal.whole_extremes-requires
whole_extremes-requires c = record {
  short = c.requires.short;
  known = subst (IsAssigned c.args.problem.now c.args.prefix.now (length c.args.prefix.now) c.args.k) (sym c.row_extremes-known.ensures) (c.requires.row c.args.k c.requires.site);
  others = subst (IsUnassigned c.args.problem.now (length c.args.prefix.now) c.args.k) (sym c.row_extremes.ensures) (c.requires.rest c.args.k c.requires.site);
}
