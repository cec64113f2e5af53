-- which tags are those of dots and of lattice coordinates, and the sites that they give
use Rattle.std.specs.Prelude.{ℤ, Bool, cond, List, [], ◌∷◌, ℕ, filter, Option, None, Some, option_and_then, codes}
use Rattle.std.specs.List.{list_any}
use Rattle.std.specs.Str.{bytes_eq}
use Rattle.sidb_layout.specs.declared.site.Site.{Site}
use Rattle.sqd_marks.specs.Marks.{Tag}
use Rattle.sqd_marks.specs.Tags.{attribute_value}
use Rattle.sqd_elements.specs.Numbers.{number_in}

-- whether a tag is that of a dot
abbrev pub is_dot : Tag → Bool
is_dot tag = bytes_eq tag.name (codes "dbdot")

-- whether a tag is that of the lattice coordinates of a dot
abbrev pub is_latcoord : Tag → Bool
is_latcoord tag = bytes_eq tag.name (codes "latcoord")

-- the whole number that a tag gives under this name
abbrev pub coordinate_in : List ℕ → Tag → Option ℤ
coordinate_in name tag = option_and_then number_in (attribute_value name tag.attributes)

-- the site of three numbers, where all are there
abbrev pub site_from : Option ℤ → Option ℤ → Option ℤ → Option Site
site_from (Some n) (Some m) (Some l) = Some (record { n = n; m = m; l = l })
site_from _ _ _ = None

-- the site that the attributes `n`, `m` and `l` of a tag give
abbrev pub site_in : Tag → Option Site
site_in tag = site_from (coordinate_in (codes "n") tag) (coordinate_in (codes "m") tag)
    (coordinate_in (codes "l") tag)

-- the site that the only one of these tags gives
abbrev pub only_site : List Tag → Option Site
only_site (tag ∷ []) = site_in tag
only_site _ = None

-- the site of a dot with these tags inside: that of its one `latcoord`, where no dot is among them
abbrev pub site_inside : List Tag → Option Site
site_inside tags = cond (list_any is_dot tags) None (only_site (filter is_latcoord tags))
