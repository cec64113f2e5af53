use Rattle.std.proofs.Common.{length}
use Rattle.sqd_marks.specs.Marks.{Tag}
use Rattle.sqd_marks.specs.Tags.{IsTagOf}
use Rattle.sqd_marks.proofs.Attributes.{IsLeft}
use Rattle.sqd_marks.proofs.tag_value.attribute.Given as goal

abbrev pub invariant-parts : goal.invariant-parts
invariant-parts l = (t : Tag) → IsTagOf t l.mark → IsLeft t l.name l.left

abbrev pub decreases-parts : goal.decreases-parts
decreases-parts l = length l.left
