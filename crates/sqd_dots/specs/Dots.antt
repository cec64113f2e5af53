-- the dots of a text, and the items that are skipped
use Rattle.std.specs.Prelude.{ℕ, Bool, false, not, ◌&&◌, cond, List, [], ◌∷◌, filter, map, length, Option, None, option_map, is_some, codes}
use Rattle.std.specs.List.{list_any, filter_map}
use Rattle.std.specs.Str.{bytes_eq}
use Rattle.sidb_layout.specs.declared.site.Site.{Site}
use Rattle.sqd_elements.specs.Elements.{Element}
use Rattle.sqd_elements.specs.Sites.{is_dot, site_inside}
use Rattle.sqd_dots.specs.declared.drawing.Dot.{Dot}

-- the dot of an element and a site
abbrev pub dot_at : Element → Site → Dot
dot_at e site = record { at = e.at; site = site }

-- the dot that an element is, where it is one and has a site
abbrev pub dot_of : Element → Option Dot
dot_of e = cond (is_dot e.tag) (option_map (dot_at e) (site_inside e.inside)) None

-- the dots among elements
abbrev pub dots_of : List Element → List Dot
dots_of es = filter_map dot_of es

-- whether an element is a dot without a site
abbrev pub is_bad : Element → Bool
is_bad e = is_dot e.tag && not (is_some (site_inside e.inside))

-- where the dots without a site begin
abbrev pub bad_places : List Element → List ℕ
bad_places es = map (λ e. e.at) (filter is_bad es)

-- whether the first element, which is the root, is named `siqad`
abbrev pub is_siqad : List Element → Bool
is_siqad [] = false
is_siqad (e ∷ es) = bytes_eq e.tag.name (codes "siqad")

-- whether the nearest of these names around is that of a design layer: an element `layer` that is a
-- child of an element `design` that is a child of the root
abbrev pub is_layer : List (List ℕ) → Bool
is_layer (layer ∷ design ∷ root ∷ []) =
    bytes_eq layer (codes "layer") && bytes_eq design (codes "design")
is_layer _ = false

-- whether an element is a child of a design layer, no dot, and holds none
abbrev pub is_skipped : Element → Bool
is_skipped e = is_layer e.around && not (is_dot e.tag) && not (list_any is_dot e.inside)

-- how many elements are skipped
abbrev pub skipped_of : List Element → ℕ
skipped_of es = length (filter is_skipped es)
