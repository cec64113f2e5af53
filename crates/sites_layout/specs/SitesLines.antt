-- the lines of a sites text, and what they give
use Rattle.std.specs.Prelude.{ℕ, ◌==◌, ℤ, Bool, true, false, cond, List, [], ◌∷◌, map, codes, Option, None, Some, option_map, slice_index, slice_index_or}
use Rattle.std.specs.List.{filter_map}
use Rattle.std.specs.Option.{option_or}
use Rattle.std.specs.Str.{bytes_eq}
use Rattle.std.specs.Str.Lines.{strip_carriage_return}
use Rattle.text_rows.specs.Rows.{lines}
use Rattle.sidb_layout.specs.declared.site.Site.{Site}
use Rattle.sqd_elements.specs.Numbers.{number_in}
use Rattle.sidb_layout.specs.declared.site.Fix.{Fix}
use Rattle.sites_layout.specs.declared.line.Vector.{Vector}
use Rattle.sites_layout.specs.declared.line.Vectors.{Vectors}
use Rattle.sites_layout.specs.declared.line.SitesLine.{SitesLine}
use Rattle.sites_layout.specs.declared.line.SitesLine.TheVariants.{Empty, Place, Charge, Lattice}
use Rattle.sites_layout.specs.SitesWords.{sites_words}

-- the place of three numbers, where all are there
abbrev pub place_from : Option ℤ → Option ℤ → Option ℤ → Option Site
place_from (Some n) (Some m) (Some l) = Some (record { n = n; m = m; l = l })
place_from _ _ _ = None

-- the fixed charge of a place and a number
abbrev pub charge_from : Option Site → Option ℤ → Option Fix
charge_from (Some site) (Some q) = Some (record { site = site; charge = q })
charge_from _ _ = None

-- the vector of two numbers
abbrev pub vector_from : Option ℤ → Option ℤ → Option Vector
vector_from (Some x) (Some y) = Some (record { x = x; y = y })
vector_from _ _ = None

-- three vectors
abbrev pub vectors_from : Option Vector → Option Vector → Option Vector → Option Vectors
vectors_from (Some a) (Some b) (Some c) = Some (record { column = a; row = b; atom = c })
vectors_from _ _ _ = None

-- the line `lattice` of three vectors
abbrev pub lattice_from : List ℕ → Option Vector → Option Vector → Option Vector → Option SitesLine
lattice_from name a b c =
    cond (bytes_eq name (codes "lattice")) (option_map Lattice (vectors_from a b c)) None

-- the line of a first word and of the words behind it: three numbers, `fix` and four numbers, or
-- `lattice` and six numbers
abbrev pub content_from : List ℕ → List (List ℕ) → Option SitesLine
content_from n (m ∷ l ∷ []) =
    option_map Place (place_from (number_in n) (number_in m) (number_in l))
content_from name (n ∷ m ∷ l ∷ q ∷ []) = cond (bytes_eq name (codes "fix"))
    (option_map Charge
    (charge_from (place_from (number_in n) (number_in m) (number_in l)) (number_in q)))
    None
content_from name (ax ∷ ay ∷ bx ∷ by ∷ cx ∷ cy ∷ []) = lattice_from name
    (vector_from (number_in ax) (number_in ay))
    (vector_from (number_in bx) (number_in by))
    (vector_from (number_in cx) (number_in cy))
content_from _ _ = None

-- the line that has these words, if there is one: a comment's first word begins with `#`
abbrev pub line_from : List (List ℕ) → Option SitesLine
line_from [] = Some Empty
line_from (word ∷ more) = cond (slice_index word 0 == 35) (Some Empty) (content_from word more)

-- the line that these bytes are, a carriage return at their end left out
abbrev pub line_in : List ℕ → Option SitesLine
line_in bytes = line_from (sites_words (strip_carriage_return bytes))

-- what stands between the line feeds of a text, each a line or not
abbrev pub lines_in : List ℕ → List (Option SitesLine)
lines_in text = map line_in (lines text)

-- the lines of a text
abbrev pub sites_lines_of : List ℕ → List SitesLine
sites_lines_of text = filter_map (λ line. line) (lines_in text)

-- the site of a line
abbrev pub site_on_line : SitesLine → Option Site
site_on_line (Place site) = Some site
site_on_line _ = None

-- the fixed charge of a line
abbrev pub fix_in : SitesLine → Option Fix
fix_in (Charge fix) = Some fix
fix_in _ = None

-- the place of a site or of a fixed charge
abbrev pub place_in : SitesLine → Option Site
place_in (Place site) = Some site
place_in (Charge fix) = Some fix.site
place_in _ = None

-- the vectors of a line `lattice`
abbrev pub vectors_in : SitesLine → Option Vectors
vectors_in (Lattice vectors) = Some vectors
vectors_in _ = None

-- whether it is a line `lattice`
abbrev pub is_lattice : Option SitesLine → Bool
is_lattice (Some (Lattice vectors)) = true
is_lattice _ = false

-- the sites, in the order of the lines
abbrev pub sites_in_lines : List SitesLine → List Site
sites_in_lines ls = filter_map site_on_line ls

-- the fixed charges, in the order of the lines
abbrev pub fixes_of : List SitesLine → List Fix
fixes_of ls = filter_map fix_in ls

-- the vectors of the first line `lattice`
abbrev pub vectors_of : List SitesLine → Option Vectors
vectors_of [] = None
vectors_of (l ∷ ls) = option_or (vectors_in l) (vectors_of ls)

-- line i, counted from 0, with nothing behind the last
abbrev pub line_at : List SitesLine → ℕ → SitesLine
line_at ls i = slice_index_or ls i Empty

-- the place that line i gives
abbrev pub place_on : List SitesLine → ℕ → Option Site
place_on ls i = place_in (line_at ls i)
