use Rattle.std.proofs.Common.{sym, ◌∙◌, ◌≡◌, true, false, not, Bool}
use Rattle.sqd_marks.specs.Bytes.{is_blank}
use Rattle.sqd_marks.proofs.ByteFacts.{each_taken}
use Rattle.sqd_nesting.proofs.between.first_not_blank.Goals as goal

not_false : (a : Bool) → not a ≡ false → a ≡ true
not_false true e = cc
not_false false e = cc

pub loop-i-preserved : goal.loop-i-preserved
loop-i-preserved c = each_taken is_blank c.args.bytes.now c.loop-i.i c.loop-i-test.true c.loop-i.invariant (sym c.is_blank.ensures ∙ c.if-not-is_blank.false)
