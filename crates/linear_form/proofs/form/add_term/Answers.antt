use Rattle.std.proofs.Common.{◌≤◌, pos, ◌+ℤ◌, FitsSigned, w64, unsigned_abs, arith}
use Rattle.std.proofs.lemmas.Int.{ints, to_z-of_z, fits_signed_from_abs}
use Rattle.std.proofs.lemmas.List.Sums.{get_or-le-sum_by}
use Rattle.linear_form.specs.Forms.{coefficient_at, weight_of}
use Rattle.linear_form.proofs.Weighed.{weighed-set}
use Rattle.linear_form.proofs.form.add_term.Goals as goal

pub returns-clause-value : goal.returns-clause-value
returns-clause-value c = λ u.
    let ks = c.args.coefficients.now in
    let a = coefficient_at ks c.args.class in
    let small = get_or-le-sum_by unsigned_abs ks c.args.class (pos 0) c.requires.class in
    let room : weight_of ks ≤ 8192 = c.requires.room in
    let a_size : unsigned_abs a ≤ 8192 = omega (arith, small, room) in
    let term_size : unsigned_abs c.args.term ≤ 4096 = c.requires.small in
    let size : unsigned_abs (a +ℤ c.args.term) ≤ 12288 = omega (arith, ints, a_size, term_size) in
    let a_fits : FitsSigned w64 a = fits_signed_from_abs w64 a (omega (arith, a_size)) in
    let term_fits : FitsSigned w64 c.args.term = c.ranges.term in
    let fits : FitsSigned w64 (a +ℤ c.args.term) = fits_signed_from_abs w64 (a +ℤ c.args.term) (omega (arith, size)) in
    simp to_z-of_z (weighed-set ks c.args.class c.args.term u c.requires.class)
