use Rattle.std.proofs.Common.{◌∙◌, ap, map, ◌++◌, [], Some}
use Rattle.std.proofs.lemmas.Result.{err_from_is_err_and}
use Rattle.sites_layout.specs.SitesLines.{line_in, lines_in}
use Rattle.sites_layout.proofs.WholeText.{wrong_line}
use Rattle.sites_layout.proofs.lines.read_lines.Goals as goal

pub returns-in_err-push_line-clause-fault : goal.returns-in_err-push_line-clause-fault
returns-in_err-push_line-clause-fault c =
    let before = c.loop-line.lines.items in
    let is = c.loop-line.invariant.text ∙ ap (λ r. map Some before ++ map line_in r) c.in-Some.ensures.parts in
    let returned = err_from_is_err_and c.from_residual.result c.from_residual.ensures.1 in
    rw (returned.1, returned.2) (wrong_line c.args.text.now before c.in-Some.line.now (lines_in c.in-Some.behind.now) c.in_err-push_line.field-0.0 is c.loop-line.invariant.fine c.in_err-push_line.ensures.fault)

pub returns-in_err-push_line-2-clause-fault : goal.returns-in_err-push_line-2-clause-fault
returns-in_err-push_line-2-clause-fault c =
    let before = c.loop-line.lines.items in
    let is = c.loop-line.invariant.text ∙ ap (λ r. map Some before ++ map line_in r) c.in_default.ensures.whole in
    let returned = err_from_is_err_and c.from_residual-in_err-push_line-2.result c.from_residual-in_err-push_line-2.ensures.1 in
    rw (returned.1, returned.2) (wrong_line c.args.text.now before c.loop-line.rest.now [] c.in_err-push_line-2.field-0.0 is c.loop-line.invariant.fine c.in_err-push_line-2.ensures.fault)
