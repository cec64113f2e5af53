use Rattle.std.proofs.Common.{◌∙◌, sym}
use Rattle.sqd_marks.proofs.Attributes.{none_left, first_left, others_left}
use Rattle.sqd_marks.proofs.tag_value.attribute.Goals as goal

pub returns-in-None : goal.returns-in-None
returns-in-None c = record {
  value = λ t h. sym (none_left t c.args.name.now c.parts.left.now (c.parts.invariant t h) c.in-None.ensures.next);
}

pub returns-then-eq : goal.returns-then-eq
returns-then-eq c = record {
  value = λ t h. sym (first_left t c.args.name.now c.parts.left.now c.in-Some.part (c.parts.invariant t h) c.in-Some.ensures.next (sym c.eq.ensures ∙ c.if-eq.true));
}

pub parts-preserved : goal.parts-preserved
parts-preserved c = λ t h.
    others_left t c.args.name.now c.parts.left.now c.in-Some.part (c.parts.invariant t h) c.in-Some.ensures.next (sym c.eq.ensures ∙ c.if-eq.false)
