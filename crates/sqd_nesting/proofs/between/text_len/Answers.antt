use Rattle.sqd_nesting.specs.Texts.{is_text}
use Rattle.sqd_nesting.proofs.Betweens.{not_less}
use Rattle.sqd_marks.proofs.ByteFacts.{each_taken}
use Rattle.sqd_nesting.proofs.between.text_len.Goals as goal

pub loop-i-preserved : goal.loop-i-preserved
loop-i-preserved c = each_taken is_text c.args.bytes.now c.loop-i.i c.loop-i-test.true c.loop-i.invariant (not_less _ c.if-b-eq60.false)
