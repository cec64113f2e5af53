use Rattle.std.proofs.Common.{ap, arith, ◌+◌, ◌*◌, unsigned_abs}
use Rattle.std.proofs.lemmas.Int.{ints}
use Rattle.table_lines.proofs.RangeLemmas.{pairs_of, small}
use Rattle.table_lines.proofs.range.most_classes.Goals as goal

pub returns : goal.returns
returns c =
    rw (c.unsigned_abs-sites.ensures.value, c.unsigned_abs-fixed.ensures.value, small c.args.sites c.requires.sites_low c.requires.sites_high, small c.args.fixed c.requires.fixed_low (omega (arith, ints))) (ap (λ pairs. pairs + unsigned_abs c.args.sites * unsigned_abs c.args.fixed) (pairs_of (unsigned_abs c.args.sites)))
