use Rattle.std.proofs.Common.{sym, ◌∙◌}
use Rattle.sqd_marks.specs.Bytes.{is_of}
use Rattle.sqd_marks.proofs.ByteFacts.{each_taken}
use Rattle.sqd_marks.proofs.span.span_len.Goals as goal

pub loop-i-preserved : goal.loop-i-preserved
loop-i-preserved c = each_taken (is_of c.args.kind) c.args.bytes.now c.loop-i.i c.loop-i-test.true c.loop-i.invariant (sym c.has.ensures ∙ c.if-not-has.false)
