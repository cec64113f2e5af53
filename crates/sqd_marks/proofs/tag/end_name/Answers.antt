use Rattle.sqd_marks.proofs.Names.{name_of_end}
use Rattle.sqd_marks.proofs.tag.end_name.Goals as goal

pub returns-in-len2-up : goal.returns-in-len2-up
returns-in-len2-up c = record {
  name = λ n after h is. name_of_end n after c.args.mark.now _ _ h is c.cut_span.ensures.cut;
}
