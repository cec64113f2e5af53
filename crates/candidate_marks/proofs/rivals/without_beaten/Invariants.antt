use Rattle.std.proofs.Common.{◌≡◌, ◌++◌, length}
use Rattle.std.specs.Vec.Iter.{into_iter_items, into_iter_len}
use Rattle.candidate_marks.proofs.Filtering.{GoneTo}
use Rattle.candidate_marks.proofs.rivals.without_beaten.Given as goal

abbrev pub invariant-loop-candidate : goal.invariant-loop-candidate
invariant-loop-candidate l = record {
  parts : l.yielded ++ into_iter_items l.candidate-iterator ≡ l.fn.all.items;
  left : into_iter_len l.candidate-iterator ≡ length (into_iter_items l.candidate-iterator);
  place : l.k ≡ length l.yielded;
  gone : GoneTo l._problem l._window.width l.fn.all.items l.k l.list.items;
}
