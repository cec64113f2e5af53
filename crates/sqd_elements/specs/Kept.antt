-- what is kept of the tags inside an element
use Rattle.std.specs.Prelude.{true, false, ◌||◌, cond, List, [], ◌∷◌, filter, Option, None, codes}
use Rattle.std.specs.List.{list_any}
use Rattle.std.specs.Str.{bytes_eq}
use Rattle.sidb_layout.specs.declared.site.Site.{Site}
use Rattle.sqd_marks.specs.Marks.{Tag}
use Rattle.sqd_elements.specs.declared.kept.Sort.{Sort}
use Rattle.sqd_elements.specs.declared.kept.Sort.TheVariants as sorts
use Rattle.sqd_elements.specs.declared.kept.Latcoords.{Latcoords}
use Rattle.sqd_elements.specs.declared.kept.Latcoords.TheVariants.{Nowhere, Once, Twice}
use Rattle.sqd_elements.specs.declared.kept.Inside.{Inside}
use Rattle.sqd_elements.specs.Sites.{is_dot, is_latcoord, site_in}

-- the sort of a tag
abbrev pub sort_in : Tag → Sort
sort_in tag = cond (is_dot tag) sorts.Dot
    (cond (is_latcoord tag) (sorts.Latcoord (site_in tag))
    (cond (bytes_eq tag.name (codes "siqad")) sorts.Siqad sorts.Other))

-- how many `latcoord`s these are, with the site of one
abbrev pub latcoords_of : List Tag → Latcoords
latcoords_of [] = Nowhere
latcoords_of (tag ∷ []) = Once (site_in tag)
latcoords_of _ = Twice

-- what is kept of the tags inside an element
abbrev pub inside_of : List Tag → Inside
inside_of tags = record {
  has_dot = list_any is_dot tags;
  latcoords = latcoords_of (filter is_latcoord tags);
}

-- the `latcoord`s of both
abbrev pub both_latcoords : Latcoords → Latcoords → Latcoords
both_latcoords Nowhere more = more
both_latcoords few Nowhere = few
both_latcoords _ _ = Twice

-- what is kept of the tags of both
abbrev pub both : Inside → Inside → Inside
both a b = record {
  has_dot = a.has_dot || b.has_dot;
  latcoords = both_latcoords a.latcoords b.latcoords;
}

-- what is kept of a tag of this sort
abbrev pub inside_from : Sort → Inside
inside_from sorts.Dot = record { has_dot = true; latcoords = Nowhere }
inside_from (sorts.Latcoord site) = record { has_dot = false; latcoords = Once site }
inside_from _ = record { has_dot = false; latcoords = Nowhere }

-- the site of a dot
abbrev pub site_from_latcoords : Latcoords → Option Site
site_from_latcoords (Once site) = site
site_from_latcoords _ = None

-- the site of a dot with so much inside
abbrev pub site_from_inside : Inside → Option Site
site_from_inside i = cond i.has_dot None (site_from_latcoords i.latcoords)
