-- what is kept of the tags inside an element says enough of them
use Rattle.std.proofs.Common.{◌≡◌, ◌∙◌, refl, sym, ap, subst, List, [], ◌∷◌, ◌++◌, Bool, true, false, cond, ◌||◌, filter, Option, None}
use Rattle.std.specs.Prelude.{codes}
use Rattle.std.specs.List.{list_any}
use Rattle.std.specs.Str.{bytes_eq}
use Rattle.std.proofs.lemmas.List.Elements.{filter-append}
use Rattle.std.proofs.lemmas.List.Folds.{list_any-append}
use Rattle.sidb_layout.specs.declared.site.Site.{Site}
use Rattle.sqd_marks.specs.Marks.{Tag}
use Rattle.sqd_elements.specs.declared.kept.Sort.{Sort}
use Rattle.sqd_elements.specs.declared.kept.Sort.TheVariants as sorts
use Rattle.sqd_elements.specs.declared.kept.Latcoords.{Latcoords}
use Rattle.sqd_elements.specs.declared.kept.Inside.{Inside}
use Rattle.sqd_elements.specs.Sites.{is_dot, is_latcoord, site_in, only_site, site_inside}
use Rattle.sqd_elements.specs.Kept.{sort_in, latcoords_of, inside_of, both, both_latcoords, inside_from, site_from_latcoords, site_from_inside}
use Rattle.std.proofs.lemmas.Slice.Eq.{bytes_eq-Decides}

abbrev made : Bool → Latcoords → Inside
made dot latcoords = record { has_dot = dot; latcoords = latcoords }

-- the sort by the answers of the three tests
abbrev by_tests : Bool → Bool → Bool → Option Site → Sort
by_tests dot latcoord siqad site = cond dot sorts.Dot (cond latcoord (sorts.Latcoord site) (cond siqad sorts.Siqad sorts.Other))

-- a dot is no `latcoord`
dot_alone : (tag : Tag) → is_dot tag ≡ true → is_latcoord tag ≡ false
dot_alone tag h = subst (λ w. bytes_eq w (codes "latcoord") ≡ false) (sym ((bytes_eq-Decides tag.name (codes "dbdot")).0 h)) refl

one_of : (tag : Tag) (d l s : Bool) → (d ≡ true → l ≡ false) → made (d || false) (latcoords_of (cond l (tag ∷ []) [])) ≡ inside_from (by_tests d l s (site_in tag))
one_of tag true true s h = absurd (cc (h refl))
one_of tag true false s h = refl
one_of tag false true s h = refl
one_of tag false false true h = refl
one_of tag false false false h = refl

-- one tag inside
pub inside_one : (tag : Tag) → inside_of (tag ∷ []) ≡ inside_from (sort_in tag)
inside_one tag = one_of tag (is_dot tag) (is_latcoord tag) (bytes_eq tag.name (codes "siqad")) (dot_alone tag)

latcoords_append : (a b : List Tag) → latcoords_of (a ++ b) ≡ both_latcoords (latcoords_of a) (latcoords_of b)
latcoords_append [] b = refl
latcoords_append (s ∷ []) [] = refl
latcoords_append (s ∷ []) (t ∷ []) = refl
latcoords_append (s ∷ []) (t ∷ u ∷ b) = refl
latcoords_append (s ∷ r ∷ a) [] = refl
latcoords_append (s ∷ r ∷ a) (t ∷ []) = refl
latcoords_append (s ∷ r ∷ a) (t ∷ u ∷ b) = refl

-- the tags of both
pub inside_append : (a b : List Tag) → inside_of (a ++ b) ≡ both (inside_of a) (inside_of b)
inside_append a b =
    let dots = list_any-append is_dot a b in
    let places : latcoords_of (filter is_latcoord (a ++ b)) ≡ both_latcoords (latcoords_of (filter is_latcoord a)) (latcoords_of (filter is_latcoord b)) = ap latcoords_of (filter-append is_latcoord a b) ∙ latcoords_append (filter is_latcoord a) (filter is_latcoord b) in
    ap (λ d. made d (latcoords_of (filter is_latcoord (a ++ b)))) dots ∙ ap (λ l. made (list_any is_dot a || list_any is_dot b) l) places

site_of_latcoords : (tags : List Tag) → only_site tags ≡ site_from_latcoords (latcoords_of tags)
site_of_latcoords [] = refl
site_of_latcoords (t ∷ []) = refl
site_of_latcoords (t ∷ u ∷ tags) = refl

-- the site of a dot
pub site_kept : (tags : List Tag) → site_inside tags ≡ site_from_inside (inside_of tags)
site_kept tags = ap (λ s. cond (list_any is_dot tags) None s) (site_of_latcoords (filter is_latcoord tags))
