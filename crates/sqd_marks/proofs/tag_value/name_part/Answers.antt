use Rattle.std.proofs.Common.{◌∙◌, sym}
use Rattle.sqd_marks.proofs.Attributes.{named, equals, some_name, nameless, no_bytes, some_bytes}
use Rattle.sqd_marks.proofs.tag_value.name_part.Goals as goal

pub returns-then-is_empty-clause-some : goal.returns-then-is_empty-clause-some
returns-then-is_empty-clause-some c = λ a more h is.
    let parts = named a more c.args.left.now _ _ _ _ h is c.cut_span.ensures.cut c.cut_span-name.ensures.cut in
    some_name a h (sym parts.name ∙ no_bytes _ (sym c.is_empty.ensures ∙ c.if-is_empty.true))

pub returns-in-None-clause-some : goal.returns-in-None-clause-some
returns-in-None-clause-some c = λ a more h is.
    let parts = named a more c.args.left.now _ _ _ _ h is c.cut_span.ensures.cut c.cut_span-name.ensures.cut in
    let rest = equals a more _ _ _ _ h parts c.cut_span-2.ensures.cut in
    cc (sym c.in-None.ensures.none ∙ rest)

pub returns-in-Some-clause-some : goal.returns-in-Some-clause-some
returns-in-Some-clause-some c = λ a more h is.
    let parts = named a more c.args.left.now _ _ _ _ h is c.cut_span.ensures.cut c.cut_span-name.ensures.cut in
    let rest = equals a more _ _ _ _ h parts c.cut_span-2.ensures.cut in
    (parts.name, cc (sym c.in-Some.ensures.parts ∙ rest))

pub returns-in-Some-clause-none : goal.returns-in-Some-clause-none
returns-in-Some-clause-none c = λ h.
    let none = nameless c.args.left.now _ _ _ _ h c.cut_span.ensures.cut c.cut_span-name.ensures.cut in
    absurd (some_bytes _ (sym c.is_empty.ensures ∙ c.if-is_empty.false) none)
