use Rattle.std.proofs.Common.{◌∙◌, subst}
use Rattle.sidb_layout.specs.Refusal.{IsMadeOf, IsLayoutRefusal}
use Rattle.sites_layout.specs.SitesLines.{sites_in_lines, fixes_of}
use Rattle.sites_layout.specs.SitesFaults.{IsLayoutOf}
use Rattle.sites_layout.proofs.WholeText.{if_ok}
use Rattle.sites_layout.proofs.read.layout_of_lines.Goals as goal

pub unrefused_layout-requires : goal.unrefused_layout-requires
unrefused_layout-requires c =
    let sites = c.deref.ensures.value ∙ c.in_ok-sites.ensures in
    let fixes = c.deref-2.ensures.value ∙ c.in_ok-fixes.ensures in
    let ls = c.args.lines.now in
    let made = c.clear_lines_make_a_layout.ensures c.lattice_in-lattice.result ls c.in_default-fault_of.ensures in
    λ refusal h. c.a_layout_is_not_refused.ensures c.lattice_in-lattice.result (sites_in_lines ls) (fixes_of ls) made.0 refusal made.1
    (subst (λ s. IsLayoutRefusal c.lattice_in-lattice.result s (fixes_of c.args.lines.now) refusal) sites
    (subst (λ f. IsLayoutRefusal c.lattice_in-lattice.result c.deref.result.now f refusal) fixes h))

pub returns-clause-layout : goal.returns-clause-layout
returns-clause-layout c =
    let sites = c.deref.ensures.value ∙ c.in_ok-sites.ensures in
    let fixes = c.deref-2.ensures.value ∙ c.in_ok-fixes.ensures in
    if_ok (IsMadeOf c.lattice_in-lattice.result c.deref.result.now c.deref-2.result.now) (IsLayoutOf c.args.lines.now) c.unrefused_layout.result
    (λ p made. record {
      lattice = c.lattice_in-lattice.result;
      of_lines = c.lattice_in-lattice.ensures;
      clear = c.in_default-fault_of.ensures;
      made = subst (λ s. IsMadeOf c.lattice_in-lattice.result s (fixes_of c.args.lines.now) p) sites
          (subst (λ f. IsMadeOf c.lattice_in-lattice.result c.deref.result.now f p) fixes made);
    })
    c.unrefused_layout.ensures.layout
