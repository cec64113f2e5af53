use Rattle.std.proofs.Common.{◌∙◌, ◌<◌, length, sym, arith}
use Rattle.std.proofs.lemmas.Bool.{false≢true}
use Rattle.level_range.proofs.SameEntries.{entry_at, entries_more}
use Rattle.level_range.proofs.entries.same_entries.Goals as goal

pub returns-then-not-same_entry : goal.returns-then-not-same_entry
returns-then-not-same_entry c =
    let a = c.args.a.now in
    let b = c.args.b.now in
    let left : c.loop-i.i < length a = omega arith in
    let right : c.loop-i.i < length b = omega arith in (
      λ e. absurd (false≢true e),
      λ h. absurd (false≢true (sym c.if-not-same_entry.true ∙ c.same_entry.ensures.1 (entry_at a b c.loop-i.i c.index-a-i.result c.index-b-i.result left right c.index-a-i.is c.index-b-i.is h))),
    )

pub loop-i-preserved : goal.loop-i-preserved
loop-i-preserved c =
    let a = c.args.a.now in
    let b = c.args.b.now in
    let left : c.loop-i.i < length a = omega arith in
    let right : c.loop-i.i < length b = omega arith in
    entries_more a b c.loop-i.i c.index-a-i.result c.index-b-i.result left right c.index-a-i.is c.index-b-i.is (c.same_entry.ensures.0 c.if-not-same_entry.false) c.loop-i.invariant
