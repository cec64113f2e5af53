use Rattle.table_lines.proofs.RangeLemmas.{kept}
use Rattle.table_lines.proofs.range.has_room.Goals as goal

pub most_classes-requires-clause-sites_low : goal.most_classes-requires-clause-sites_low
most_classes-requires-clause-sites_low c =
    let are = kept c.args.seen.now c.requires.counted c.requires.fine in
    rw are.sites_fit are.sites_low

pub most_classes-requires-clause-sites_high : goal.most_classes-requires-clause-sites_high
most_classes-requires-clause-sites_high c =
    let are = kept c.args.seen.now c.requires.counted c.requires.fine in
    rw are.sites_fit are.sites_high

pub most_classes-requires-clause-fixed_low : goal.most_classes-requires-clause-fixed_low
most_classes-requires-clause-fixed_low c =
    let are = kept c.args.seen.now c.requires.counted c.requires.fine in
    rw are.fixed_fit are.fixed_low

pub most_classes-requires-clause-fixed_high : goal.most_classes-requires-clause-fixed_high
most_classes-requires-clause-fixed_high c =
    let are = kept c.args.seen.now c.requires.counted c.requires.fine in
    rw are.fixed_fit are.fixed_high
