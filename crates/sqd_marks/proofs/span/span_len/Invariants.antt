use Rattle.std.proofs.Common.{take}
use Rattle.sqd_marks.specs.Bytes.{Each, is_of}
use Rattle.sqd_marks.proofs.span.span_len.Given as goal

abbrev pub invariant-loop-i : goal.invariant-loop-i
invariant-loop-i l = Each (is_of l.kind) (take l.i l.bytes)
