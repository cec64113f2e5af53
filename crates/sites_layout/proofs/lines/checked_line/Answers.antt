use Rattle.std.proofs.Common.{◌∙◌, sym, ap, subst, refl, inr, map, ◌++◌, ◌∷◌, [], Some}
use Rattle.sites_layout.specs.SitesWords.{sites_words}
use Rattle.sites_layout.specs.SitesLines.{line_from}
use Rattle.sites_layout.specs.SitesFaults.{AreFineSitesLines}
use Rattle.sites_layout.proofs.FineLines.{bad_second, fine_first, fine_plain}
use Rattle.sites_layout.proofs.lines.checked_line.Goals as goal
use Rattle.sites_layout.proofs.lines.checked_line.Goals.{else-is_lattice-via-then-is_lattice+else-has_lattice, else-is_lattice-via-else-is_lattice}

pub returns-then-has_lattice-clause-fault : goal.returns-then-has_lattice-clause-fault
returns-then-has_lattice-clause-fault c =
    let row = c.in_ok-row.ensures ∙ ap sites_words c.without_return.ensures in
    let is = sym (c.in-Some.ensures ∙ (ap (λ r. line_from (map (λ w. w.now) r)) c.deref.ensures.value ∙ ap line_from row)) in
    let bad = bad_second c.args.before.now c.in-Some.line (sym c.has_lattice.ensures ∙ c.if-has_lattice.true) (sym c.is_lattice.ensures ∙ c.if-is_lattice.true) in
    inr (refl, subst (λ l. ¬ AreFineSitesLines (map Some c.args.before.now ++ l ∷ [])) (sym is) bad)

pub returns-clause-fine : goal.returns-clause-fine
returns-clause-fine c = elim c.else-is_lattice.branch [
  | else-is_lattice-via-then-is_lattice+else-has_lattice w ↦ fine_first c.args.before.now c.in-Some.line c.requires.fine (sym w.has_lattice.ensures ∙ w.if-has_lattice.false)
  | else-is_lattice-via-else-is_lattice w ↦ fine_plain (map Some c.args.before.now) c.in-Some.line c.requires.fine (sym c.is_lattice.ensures ∙ w.if-is_lattice.false)
]
