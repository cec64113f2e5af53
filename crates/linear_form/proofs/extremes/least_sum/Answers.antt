use Rattle.std.proofs.Common.{◌≡◌, ◌<◌, ◌*ℤ◌, ◌+ℤ◌, FitsSigned, w64, to_z, length, arith}
use Rattle.std.proofs.lemmas.Int.{to_z-of_z}
use Rattle.charge_model.specs.Problem.{lo_in, hi_in}
use Rattle.linear_form.specs.Forms.{coefficient_at}
use Rattle.linear_form.specs.Parts.{pick}
use Rattle.linear_form.proofs.Picked.{span_read, coefficient_fits, picked_more, PickedMore}
use Rattle.linear_form.proofs.extremes.least_sum.Goals as goal

pub picked-total-requires-clause-x : goal.picked-total-requires-clause-x
picked-total-requires-clause-x c =
    let s = span_read c.args.spans.now c.loop-c.c c.index-spans-c.result c.requires.spans (omega arith) c.index-spans-c.is in
    let fits = s.lo_fits in simp to_z-of_z s.lo_size

pub picked-total-requires-clause-y : goal.picked-total-requires-clause-y
picked-total-requires-clause-y c =
    let s = span_read c.args.spans.now c.loop-c.c c.index-spans-c.result c.requires.spans (omega arith) c.index-spans-c.is in
    let fits = s.hi_fits in simp to_z-of_z s.hi_size

more : (c : goal.After-picked-total) → PickedMore c.args.coefficients.now c.loop-c.c (lo_in c.args.spans.now) (hi_in c.args.spans.now) (to_z w64 c.loop-c.total-bits +ℤ c.picked-total.result)
more c =
    let s = span_read c.args.spans.now c.loop-c.c c.index-spans-c.result c.requires.spans (omega arith) c.index-spans-c.is in
    let lo_fits = s.lo_fits in
    let hi_fits = s.hi_fits in
    let in_range : c.loop-c.c < length c.args.coefficients.now = omega arith in
    let fits = coefficient_fits c.args.coefficients.now c.loop-c.c in_range c.requires.weight in
    let now = simp to_z-of_z at c.picked-total.ensures.value in
    let size = simp to_z-of_z at c.picked-total.ensures.within in
    let a = coefficient_at c.args.coefficients.now c.loop-c.c in
    let here : c.picked-total.result ≡ a *ℤ pick a (lo_in c.args.spans.now c.loop-c.c) (hi_in c.args.spans.now c.loop-c.c) = rw (s.lo, s.hi) now in
    picked_more c.args.coefficients.now c.loop-c.c (lo_in c.args.spans.now) (hi_in c.args.spans.now) _ _ in_range c.requires.weight c.loop-c.invariant.value c.loop-c.invariant.size here size

pub overflow_add-total : goal.overflow_add-total
overflow_add-total c =
    let fits : FitsSigned w64 c.picked-total.result = record { sfits = c.picked-total.type_inv } in
    simp to_z-of_z (more c).fits

pub loop-c-preserved : goal.loop-c-preserved
loop-c-preserved c =
    let fits : FitsSigned w64 c.picked-total.result = record { sfits = c.picked-total.type_inv } in
    let all = (more c).fits in
    record { value = simp to_z-of_z (more c).value; size = simp to_z-of_z (more c).size }
