-- one element more in a tally
use Rattle.std.proofs.Common.{◌≡◌, ◌∙◌, refl, sym, ap, length, List, [], ◌∷◌, ◌++◌, Bool, true, false, cond, not, ◌&&◌, map, reverse, Option, Some, None}
use Rattle.std.specs.Prelude.{codes, is_some, option_map, slice_get}
use Rattle.std.specs.Str.{bytes_eq}
use Rattle.std.proofs.lemmas.List.{reverse-append}
use Rattle.sidb_layout.specs.declared.site.Site.{Site}
use Rattle.sqd_elements.specs.declared.kept.Sort.TheVariants as sorts
use Rattle.sqd_dots.specs.declared.tally.Tally.{Tally}
use Rattle.sqd_elements.specs.Elements.{Element}
use Rattle.sqd_elements.specs.Sites.{is_dot, is_latcoord, site_in, site_inside}
use Rattle.sqd_dots.specs.Dots.{dot_at, dot_of, is_bad, is_layer, is_skipped, skipped_of, is_siqad}
use Rattle.sqd_elements.specs.Kept.{sort_in}
use Rattle.sqd_dots.specs.States.{IsTally}
use Rattle.sqd_dots.proofs.Choices.{filter_yes, filter_no, map_yes, map_no, other_word}

-- the sort by the answers of the three tests
dot_is : (d l s : Bool) (site : Option Site) → cond d sorts.Dot (cond l (sorts.Latcoord site) (cond s sorts.Siqad sorts.Other)) ≡ sorts.Dot → d ≡ true
dot_is true l s site h = refl
dot_is false true s site h = absurd (cc h)
dot_is false false true site h = absurd (cc h)
dot_is false false false site h = absurd (cc h)

is_dot_of : (e : Element) → sort_in e.tag ≡ sorts.Dot → is_dot e.tag ≡ true
is_dot_of e h = dot_is (is_dot e.tag) (is_latcoord e.tag) (bytes_eq e.tag.name (codes "siqad")) (site_in e.tag) h

not_siqad : (e : Element) (es : List Element) → is_dot e.tag ≡ true → is_siqad (e ∷ es) ≡ false
not_siqad e es h = other_word e.tag.name (codes "dbdot") (codes "siqad") h refl

not_skipped : (layer dot inner : Bool) → dot ≡ true → (layer && not dot && inner) ≡ false
not_skipped true true inner h = refl
not_skipped false true inner h = refl
not_skipped layer false inner h = absurd (cc h)

skips_none : (e : Element) (es : List Element) → is_dot e.tag ≡ true → skipped_of (e ∷ es) ≡ skipped_of es
skips_none e es h = ap length (filter_no is_skipped e es (not_skipped (is_layer e.around) (is_dot e.tag) _ h))

dot_if : (d : Bool) (e : Element) (o : Option Site) (s : Site) → d ≡ true → o ≡ Some s → cond d (option_map (dot_at e) o) None ≡ Some (dot_at e s)
dot_if true e o s h g = ap (option_map (dot_at e)) g
dot_if false e o s h g = absurd (cc h)

no_dot_if : (d : Bool) (e : Element) (o : Option Site) → o ≡ None → cond d (option_map (dot_at e) o) None ≡ None
no_dot_if true e o g = ap (option_map (dot_at e)) g
no_dot_if false e o g = refl

bad_if : (d : Bool) (o : Option Site) → d ≡ true → o ≡ None → (d && not (is_some o)) ≡ true
bad_if true o h g = ap (λ x. not (is_some x)) g
bad_if false o h g = absurd (cc h)

good_if : (d : Bool) (o : Option Site) (s : Site) → o ≡ Some s → (d && not (is_some o)) ≡ false
good_if true o s g = ap (λ x. not (is_some x)) g
good_if false o s g = refl

-- a dot with a site
pub see_site : (old new : Tally) (e : Element) (es : List Element) (site : Site) → IsTally old es → sort_in e.tag ≡ sorts.Dot → site_inside e.inside ≡ Some site
    → new.dots.items ≡ old.dots.items ++ dot_at e site ∷ [] → new.bad ≡ old.bad → new.skipped ≡ old.skipped → new.siqad ≡ false → IsTally new (e ∷ es)
see_site old new e es site t sort found dots bad skipped siqad =
    let dot = is_dot_of e sort in
    record {
      dots = ap reverse dots ∙ reverse-append old.dots.items (dot_at e site ∷ []) ∙ ap (λ ds. dot_at e site ∷ ds) t.dots ∙ sym (map_yes dot_of e (dot_at e site) es (dot_if (is_dot e.tag) e (site_inside e.inside) site dot found));
      bad = bad ∙ t.bad ∙ sym (ap (λ xs. slice_get (map (λ x. x.at) xs) 0) (filter_no is_bad e es (good_if (is_dot e.tag) (site_inside e.inside) site found)));
      skipped = skipped ∙ t.skipped ∙ sym (skips_none e es dot);
      siqad = siqad ∙ sym (not_siqad e es dot);
    }

-- a dot without a site
pub see_bad : (old new : Tally) (e : Element) (es : List Element) → IsTally old es → sort_in e.tag ≡ sorts.Dot → site_inside e.inside ≡ None
    → new.dots.items ≡ old.dots.items → new.bad ≡ Some e.at → new.skipped ≡ old.skipped → new.siqad ≡ false → IsTally new (e ∷ es)
see_bad old new e es t sort found dots bad skipped siqad =
    let dot = is_dot_of e sort in
    record {
      dots = ap reverse dots ∙ t.dots ∙ sym (map_no dot_of e es (no_dot_if (is_dot e.tag) e (site_inside e.inside) found));
      bad = bad ∙ sym (ap (λ xs. slice_get (map (λ x. x.at) xs) 0) (filter_yes is_bad e es (bad_if (is_dot e.tag) (site_inside e.inside) dot found)));
      skipped = skipped ∙ t.skipped ∙ sym (skips_none e es dot);
      siqad = siqad ∙ sym (not_siqad e es dot);
    }
