use Rattle.std.proofs.Common.{◌∙◌, subst}
use Rattle.sqd_nesting.specs.Views.{nest_of, IsItemOrEnd}
use Rattle.sqd_nesting.proofs.Reading.{read_on, passed_len}
use Rattle.sqd_nesting.proofs.text_marks.read_marks.Goals as goal

pub marks-preserved : goal.marks-preserved
marks-preserved c =
    let step = subst (IsItemOrEnd c.marks.reader.at (nest_of c.marks.reader.nesting) c.marks.reader.left.now) c.in-Some.is c.in_ok-passed.ensures.ok in
    record {
      reading = rw c.in_ok-push.ensures.items (read_on c.args.text.now c.marks.reader.at c.marks.reader.left.now c.marks.found.items (nest_of c.marks.reader.nesting) c.in-Some.passed c.marks.invariant.reading step);
      room = passed_len c.marks.reader.at (nest_of c.marks.reader.nesting) c.marks.reader.left.now c.in-Some.passed step ∙ c.marks.invariant.room;
    }
