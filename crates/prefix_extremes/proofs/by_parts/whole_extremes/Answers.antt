use Rattle.std.proofs.Common.{◌≤◌, length, sym, arith}
use Rattle.std.proofs.lemmas.Int.{ints}
use Rattle.prefix_extremes.proofs.Splits.{least_split, greatest_split}
use Rattle.prefix_extremes.proofs.by_parts.whole_extremes.Goals as goal

pub returns : goal.returns
returns c =
    let known = c.requires.known.small in
    let others = c.requires.others.small in
    let few : length c.args.prefix.now ≤ 64 = omega (arith, c.requires.short, c.sites-few.ensures.within, c.sites-few.ensures.value) in
    record {
      small = record {
        least = omega (arith, ints, known.least, others.least, few, c.plus.ensures.least);
        greatest = omega (arith, ints, known.greatest, others.greatest, few, c.plus.ensures.greatest);
      };
      least = rw (c.plus.ensures.least, c.requires.known.least, c.requires.others.least) (sym (least_split c.args.problem.now c.args.prefix.now c.args.k c.requires.short));
      greatest = rw (c.plus.ensures.greatest, c.requires.known.greatest, c.requires.others.greatest) (sym (greatest_split c.args.problem.now c.args.prefix.now c.args.k c.requires.short));
    }
