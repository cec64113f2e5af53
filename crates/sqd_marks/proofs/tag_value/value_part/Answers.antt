use Rattle.std.proofs.Common.{◌∙◌, sym}
use Rattle.sqd_marks.proofs.Attributes.{quoted, valued_behind}
use Rattle.sqd_marks.proofs.tag_value.value_part.Goals as goal

pub returns-in-None-clause-some : goal.returns-in-None-clause-some
returns-in-None-clause-some c = λ right value more quote h q inside is.
    let rest = quoted right value more c.args.left.now _ _ quote h q is c.cut_span.ensures.cut in
    cc (sym c.in-None.ensures.none ∙ rest)

pub returns-in-None-first_byte-clause-some : goal.returns-in-None-first_byte-clause-some
returns-in-None-first_byte-clause-some c = λ right value more quote h q inside is.
    let rest = quoted right value more c.args.left.now _ _ quote h q is c.cut_span.ensures.cut in
    let parts = valued_behind value more quote c.in-Some.quote.byte c.in-Some.quote.behind.now _ _ inside (sym c.in-Some.ensures.parts ∙ rest) c.cut_span-value.ensures.cut in
    cc (sym c.in-None-first_byte.ensures.none ∙ parts.rest)

pub returns-in-Some-first_byte-clause-some : goal.returns-in-Some-first_byte-clause-some
returns-in-Some-first_byte-clause-some c = λ right value more quote h q inside is.
    let rest = quoted right value more c.args.left.now _ _ quote h q is c.cut_span.ensures.cut in
    let parts = valued_behind value more quote c.in-Some.quote.byte c.in-Some.quote.behind.now _ _ inside (sym c.in-Some.ensures.parts ∙ rest) c.cut_span-value.ensures.cut in
    (parts.same, cc (sym c.in-Some-first_byte.ensures.parts ∙ parts.rest))
