use Rattle.std.proofs.Common.{take}
use Rattle.sqd_marks.specs.Bytes.{Each, is_blank}
use Rattle.sqd_nesting.proofs.between.first_not_blank.Given as goal

abbrev pub invariant-loop-i : goal.invariant-loop-i
invariant-loop-i l = Each is_blank (take l.i l.bytes)
