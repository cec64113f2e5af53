use Rattle.sqd_marks.proofs.Attributes.{first_of, none_of}
use Rattle.sqd_marks.proofs.tag_value.next_attribute.Goals as goal

pub returns-in-None-clause-next : goal.returns-in-None-clause-next
returns-in-None-clause-next c = λ attributes h. none_of attributes c.args.left.now h c.in-None.ensures.some

pub returns-in-None-value_part-clause-next : goal.returns-in-None-value_part-clause-next
returns-in-None-value_part-clause-next c = λ attributes h.
    none_of attributes c.args.left.now h (λ a more g is. c.in-None-value_part.ensures.some a.right a.value more a.quote g.right g.quote g.value (c.in-Some.ensures.some a more g is).1)

pub returns-in-Some-value_part-clause-next : goal.returns-in-Some-value_part-clause-next
returns-in-Some-value_part-clause-next c = λ attributes h.
    first_of attributes c.args.left.now _ h (λ g. cc (c.in-Some.ensures.none g)) (λ a more g is.
    let name = c.in-Some.ensures.some a more g is in
    let value = c.in-Some-value_part.ensures.some a.right a.value more a.quote g.right g.quote g.value name.1 in
    record { name = name.0; value = value.0; behind = value.1 })
