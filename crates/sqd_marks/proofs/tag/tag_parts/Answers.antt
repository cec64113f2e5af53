use Rattle.sqd_marks.proofs.Names.{cut_of_tag}
use Rattle.sqd_marks.proofs.tag.tag_parts.Goals as goal

pub returns-in-len1-up-clause-name : goal.returns-in-len1-up-clause-name
returns-in-len1-up-clause-name c = λ t h. (cut_of_tag t c.args.mark.now _ _ h c.cut_span-in-len1-up.ensures.cut).named

pub returns-in-len1-up-clause-tail : goal.returns-in-len1-up-clause-tail
returns-in-len1-up-clause-tail c = λ t h. (cut_of_tag t c.args.mark.now _ _ h c.cut_span-in-len1-up.ensures.cut).tail
