use Rattle.std.proofs.Common.{◌<◌, length, arith}
use Rattle.std.proofs.lemmas.Int.{ints}
use Rattle.std.proofs.lemmas.List.Elements.{AllWithin-more, at_read}
use Rattle.level_range.specs.Answering.{HasSameLevels}
use Rattle.level_range.proofs.changes.next_change.Goals as goal

pub loop-x-preserved : goal.loop-x-preserved
loop-x-preserved c =
    let xs = c.args.all.now in
    let x = c.x-item.result in
    let within : c.loop-x.x-index < length xs = omega arith in
    record {
      later = c.sooner_of-next.ensures.later;
      within = omega (arith, ints, c.sooner_of-next.ensures.within, c.loop-x.invariant.within);
      same = λ m low high.
          AllWithin-more (λ y. HasSameLevels y c.args.level.value m) xs 0 c.loop-x.x-index
          (c.loop-x.invariant.same m low (omega (arith, ints, high, c.sooner_of-next.ensures.within)))
          (at_read xs (λ y. HasSameLevels y c.args.level.value m) c.loop-x.x-index x within c.x-item.is (c.sooner_of-next.ensures.same m low high));
    }
