use Rattle.std.proofs.Common.{◌≡◌, length}
use Rattle.charge_model.specs.Problem.{hi_in, lo_in}
use Rattle.linear_form.specs.Forms.{value_of}
use Rattle.linear_form.specs.Parts.{picked_below}
use Rattle.linear_form.proofs.OverTables.{greatest_is, Total, total_read}
use Rattle.linear_form.proofs.extremes.greatest.Goals as goal

-- what the code's sum is
total : (c : goal.After-greatest_sum) → Total c.args.form.now c.constant.result c.greatest_sum.result
total c =
    let within = rw c.coefficients.ensures at c.greatest_sum.ensures.within in
    total_read c.args.form.now c.constant.result c.greatest_sum.result c.constant.ensures c.requires.constant c.requires.weight within

pub returns-clause-greatest : goal.returns-clause-greatest
unfolding value_of
returns-clause-greatest c =
    let ks = c.args.form.now.coefficients in
    let spans = c.args.problem.now.spans in
    let sum : c.greatest_sum.result ≡ picked_below (length spans) ks (hi_in spans) (lo_in spans) = rw (← c.spans.ensures.value, ← c.coefficients.ensures) c.greatest_sum.ensures.value in
    rw ((total c).value, sum) (greatest_is c.args.problem.now c.args.form.now.constant ks c.sites-known.ensures.valid.spans c.requires.classes)

pub returns-clause-within : goal.returns-clause-within
returns-clause-within c = rw (total c).value (total c).within
