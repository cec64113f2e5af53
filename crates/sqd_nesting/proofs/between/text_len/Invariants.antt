use Rattle.std.proofs.Common.{take}
use Rattle.sqd_marks.specs.Bytes.{Each}
use Rattle.sqd_nesting.specs.Texts.{is_text}
use Rattle.sqd_nesting.proofs.between.text_len.Given as goal

abbrev pub invariant-loop-i : goal.invariant-loop-i
invariant-loop-i l = Each is_text (take l.i l.bytes)
