use Rattle.std.proofs.Common.{◌≡◌, ◌∙◌, sym, ap, refl, false, None, Some, ℕ, [], ◌∷◌, ◌++◌}
use Rattle.sidb_layout.specs.declared.site.Site.{Site}
use Rattle.sqd_dots.specs.declared.drawing.Dot.{Dot}
use Rattle.sqd_elements.specs.declared.kept.Sort.TheVariants as sorts
use Rattle.sqd_elements.specs.Sites.{site_inside}
use Rattle.sqd_elements.specs.Kept.{site_from_inside}
use Rattle.sqd_dots.proofs.TallyLemmas.{see_site, see_bad}
use Rattle.sqd_dots.proofs.tally.Tally.see.Goals as goal
use Rattle.sqd_dots.proofs.tally.Tally.see.Goals.{in-Siqad, in_default, in-Dot, in_default-matches}

abbrev dot : ℕ → Site → Dot
dot at site = record { at = at; site = site }

pub returns-in_ok-push-in-Some-clause-seen : goal.returns-in_ok-push-in-Some-clause-seen
returns-in_ok-push-in-Some-clause-seen c = λ e es t at sort inside layer.
    let is_dot : c.args.sort ≡ sorts.Dot = elim c.match-matches-2.branch [ in-Dot w ↦ w.in-Dot.is | in_default-matches w ↦ absurd (cc w.matches-is) ] in
    let no_root : c.match-matches.self ≡ false = elim c.match-matches.branch [ in-Siqad w ↦ absurd (cc (w.in-Siqad.is, is_dot)) | in_default w ↦ w.self-is ] in
    let found : site_inside e.inside ≡ Some c.in-Some.site = c.kept_site.ensures e.inside ∙ ap site_from_inside inside ∙ sym c.site.ensures ∙ c.in-Some.is in
    let pushed = c.in_ok-push-in-Some.ensures.items in
    see_site c.args.self.now _ e es c.in-Some.site t (sort ∙ is_dot) found (pushed ∙ ap (λ k. c.args.self.now.dots.items ++ dot k c.in-Some.site ∷ []) (sym at)) refl refl no_root

pub returns-in-None-clause-seen : goal.returns-in-None-clause-seen
returns-in-None-clause-seen c = λ e es t at sort inside layer.
    let is_dot : c.args.sort ≡ sorts.Dot = elim c.match-matches-2.branch [ in-Dot w ↦ w.in-Dot.is | in_default-matches w ↦ absurd (cc w.matches-is) ] in
    let no_root : c.match-matches.self ≡ false = elim c.match-matches.branch [ in-Siqad w ↦ absurd (cc (w.in-Siqad.is, is_dot)) | in_default w ↦ w.self-is ] in
    let found : site_inside e.inside ≡ None = c.kept_site.ensures e.inside ∙ ap site_from_inside inside ∙ sym c.site.ensures ∙ c.in-None.is in
    see_bad c.args.self.now _ e es t (sort ∙ is_dot) found refl (ap Some (sym at)) refl no_root
