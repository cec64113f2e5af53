use Rattle.std.proofs.Common.{sym, subst, inl, inr}
use Rattle.std.proofs.lemmas.Result.{MatchResult-weaker, err_from_is_err_and}
use Rattle.sqd_nesting.specs.Texts.{mark_len}
use Rattle.sqd_nesting.specs.Views.{ShowAll}
use Rattle.sqd_elements.specs.Elements.{elements_of}
use Rattle.sqd_dots.proofs.OneDrawing.{marks_fault}
use Rattle.sqd_dots.proofs.Whole.{read_elements, whole_closes}
use Rattle.sqd_dots.proofs.read.read_drawing.Goals as goal

pub returns-in_err-marks-clause-fault : goal.returns-in_err-marks-clause-fault
returns-in_err-marks-clause-fault c =
    let returned = err_from_is_err_and c.from_residual.result c.from_residual.ensures.1 in
    rw (returned.1, returned.2) (elim c.in_err-marks.ensures.refused [
      | inl memory ↦ inl memory
      | inr first ↦ inr (marks_fault c.args.text.now c.in_err-marks.field-0.0 first)
    ])

pub returns-clause-drawing : goal.returns-clause-drawing
returns-clause-drawing c =
    let text = c.args.text.now in
    let read = c.in_ok-marks.ensures.whole in
    let shown = subst (λ fs. ShowAll (mark_len text) fs read.items) (sym c.deref.ensures.value) read.shown in
    let tally = c.in_ok-tally.ensures (mark_len text) read.items shown read.whole.begins.valid (whole_closes text read.items read.whole) in
    c.drawing_of.ensures.drawing text (elements_of text read.items) (read_elements text read.items read.whole) tally

pub returns-clause-fault : goal.returns-clause-fault
returns-clause-fault c =
    let text = c.args.text.now in
    let read = c.in_ok-marks.ensures.whole in
    let shown = subst (λ fs. ShowAll (mark_len text) fs read.items) (sym c.deref.ensures.value) read.shown in
    let tally = c.in_ok-tally.ensures (mark_len text) read.items shown read.whole.begins.valid (whole_closes text read.items read.whole) in
    MatchResult-weaker c.drawing_of.result (c.drawing_of.ensures.fault text (elements_of text read.items) (read_elements text read.items read.whole) tally) (λ d t. t) (λ f h. inr h)
