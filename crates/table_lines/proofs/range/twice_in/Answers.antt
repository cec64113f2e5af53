use Rattle.table_lines.proofs.RangeLemmas.{pair_in_range, near_in_range}
use Rattle.table_lines.proofs.range.twice_in.Goals as goal

pub pair_class-requires-clause-i_high : goal.pair_class-requires-clause-i_high
pair_class-requires-clause-i_high c =
    let are = pair_in_range c.args.seen.now c.args.line.now c.in-Pair.i c.in-Pair.j _ c.requires.fine c.requires.in_range c.in-Pair.is in
    rw are.i_fits are.i_high

pub pair_class-requires-clause-j_high : goal.pair_class-requires-clause-j_high
pair_class-requires-clause-j_high c =
    let are = pair_in_range c.args.seen.now c.args.line.now c.in-Pair.i c.in-Pair.j _ c.requires.fine c.requires.in_range c.in-Pair.is in
    rw are.j_fits are.j_high

pub near_class-requires-clause-i_high : goal.near_class-requires-clause-i_high
near_class-requires-clause-i_high c =
    let are = near_in_range c.args.seen.now c.args.line.now c.in-Near.i c.in-Near.a _ c.requires.fine c.requires.in_range c.in-Near.is in
    rw are.i_fits are.i_high

pub near_class-requires-clause-a_high : goal.near_class-requires-clause-a_high
near_class-requires-clause-a_high c =
    let are = near_in_range c.args.seen.now c.args.line.now c.in-Near.i c.in-Near.a _ c.requires.fine c.requires.in_range c.in-Near.is in
    rw are.a_fits are.a_high
