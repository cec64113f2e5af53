use Rattle.std.proofs.Common.{◌≡◌, ◌⊎◌, subst}
use Rattle.std.proofs.lemmas.Result.{err_from_is_err_and}
use Rattle.sqd_scan.specs.declared.fault.SqdFault.TheVariants.{Memory}
use Rattle.sites_layout.specs.SitesFaults.{IsLayoutOf, IsLinesFault}
use Rattle.sites_layout.proofs.WholeText.{text_layout, text_fault}
use Rattle.sites_layout.proofs.read.read_sites.Goals as goal

pub returns-clause-found : goal.returns-clause-found
returns-clause-found c =
    text_layout c.args.text.now c.in_ok-lines.lines.items c.in_ok-layout.layout c.in_ok-lines.ensures.lines c.in_ok-lines.ensures.fine
    (subst (λ ls. IsLayoutOf ls c.in_ok-layout.layout) c.deref.ensures.value c.in_ok-layout.ensures.layout)

pub returns-in_err-layout-clause-fault : goal.returns-in_err-layout-clause-fault
returns-in_err-layout-clause-fault c =
    let fault = c.in_err-layout.field-0.0 in
    let returned = err_from_is_err_and c.from_residual-in_err-layout.result c.from_residual-in_err-layout.ensures.1 in
    rw (returned.1, returned.2) (text_fault c.args.text.now c.in_ok-lines.lines.items fault c.in_ok-lines.ensures.lines c.in_ok-lines.ensures.fine
    (subst (λ ls. (fault ≡ Memory) ⊎ IsLinesFault ls fault) c.deref.ensures.value c.in_err-layout.ensures.fault))
