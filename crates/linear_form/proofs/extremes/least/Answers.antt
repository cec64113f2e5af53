use Rattle.std.proofs.Common.{◌≡◌, length}
use Rattle.charge_model.specs.Problem.{hi_in, lo_in}
use Rattle.linear_form.specs.Forms.{value_of}
use Rattle.linear_form.specs.Parts.{picked_below}
use Rattle.linear_form.proofs.OverTables.{least_is, Total, total_read}
use Rattle.linear_form.proofs.extremes.least.Goals as goal

-- what the code's sum is
total : (c : goal.After-least_sum) → Total c.args.form.now c.constant.result c.least_sum.result
total c =
    let within = rw c.coefficients.ensures at c.least_sum.ensures.within in
    total_read c.args.form.now c.constant.result c.least_sum.result c.constant.ensures c.requires.constant c.requires.weight within

pub returns-clause-least : goal.returns-clause-least
unfolding value_of
returns-clause-least c =
    let ks = c.args.form.now.coefficients in
    let spans = c.args.problem.now.spans in
    let sum : c.least_sum.result ≡ picked_below (length spans) ks (lo_in spans) (hi_in spans) = rw (← c.spans.ensures.value, ← c.coefficients.ensures) c.least_sum.ensures.value in
    rw ((total c).value, sum) (least_is c.args.problem.now c.args.form.now.constant ks c.sites-known.ensures.valid.spans c.requires.classes)

pub returns-clause-within : goal.returns-clause-within
returns-clause-within c = rw (total c).value (total c).within
