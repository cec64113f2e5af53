-- what a report in JSON is made of, each object with its keys in the order of their bytes
use Rattle.std.specs.Prelude.{ℕ, ℤ, List, [], ◌∷◌, map, codes, Option, None, Some, option_map, if◌then◌else◌}
use Rattle.serde_json.specs.Data.{Data, number, unsigned, string, array, object, no_items, member, no_members, Members, put}
use Rattle.serde_json.specs.Find.{of_integer}
use Rattle.serde_json.specs.View.{items_of}
use Rattle.charge_model.specs.declared.span.Span.{Span}
use Rattle.charge_model.specs.declared.mark.Deciding.{Deciding}
use Rattle.charge_model.specs.declared.mark.Deciding.TheVariants.{Population, Hop, Rival}
use Rattle.charge_model.specs.declared.mark.Mark.{Mark}
use Rattle.charge_model.specs.declared.mark.Mark.TheVariants.{Certain, Unresolved}
use Rattle.charge_model.specs.GroundList.{Entry}
use Rattle.charge_state.specs.Text.{charges_text}
use Rattle.sidb_layout.specs.declared.site.Site.{Site}
use Rattle.sidb_layout.specs.declared.site.Fix.{Fix}
use Rattle.sidb_layout.specs.declared.lattice.Lattice.{Lattice}
use Rattle.sidb_layout.specs.Layout.{Arrangement}
use Rattle.entry_lines.specs.EntryLines.{test_word}
use Rattle.ground_report.specs.Subject.{is_silicon}

-- a number that is not below 0
abbrev pub natural : ℕ → Data
natural n = number (unsigned n)

-- a whole number
abbrev pub whole : ℤ → Data
whole z = number (of_integer z)

-- a list of whole numbers
abbrev pub whole_numbers : List ℤ → Data
whole_numbers zs = array (items_of (map whole zs))

-- a member that may be missing
abbrev pub with_optional : List ℕ → Option Data → Members → Members
with_optional key None rest = rest
with_optional key (Some d) rest = member key d rest

-- the members, with this one where it is given
abbrev pub put_optional : List ℕ → Option Data → Members → Members
put_optional key None members = members
put_optional key (Some d) members = put key d members

-- the place of a site
abbrev pub site_data : Site → Data
site_data s = whole_numbers (s.n ∷ s.m ∷ s.l ∷ [])

-- a fixed charge: its place and then its charge
abbrev pub fix_data : Fix → Data
fix_data f = whole_numbers (f.site.n ∷ f.site.m ∷ f.site.l ∷ f.charge ∷ [])

-- the vectors of a lattice, in hundredths of an ångström
abbrev pub lattice_data : Lattice → Data
lattice_data v = whole_numbers (v.ax ∷ v.ay ∷ v.bx ∷ v.by ∷ v.cx ∷ v.cy ∷ [])

-- the sites of a layout; none where there is no layout
abbrev pub sites_data : Option Arrangement → Data
sites_data None = array no_items
sites_data (Some l) = array (items_of (map site_data l.sites))

-- fixed charges, where there are any
abbrev pub fixes_data : List Fix → Option Data
fixes_data [] = None
fixes_data (f ∷ fs) = Some (array (items_of (map fix_data (f ∷ fs))))

-- the fixed charges of a layout, where there is one that has any
abbrev pub fixed_data : Option Arrangement → Option Data
fixed_data None = None
fixed_data (Some l) = fixes_data l.fixes

-- the lattice of a layout, where it is another one than that of silicon
abbrev pub other_lattice_data : Option Arrangement → Option Data
other_lattice_data None = None
other_lattice_data (Some l) = if is_silicon l.lattice then None else Some (lattice_data l.lattice)

-- the least and the greatest energy of an entry, in 10^-12 V
abbrev pub energy_data : Span → Data
energy_data s = whole_numbers (s.lo ∷ s.hi ∷ [])

-- what decides that an entry is not certain, with its least and greatest slack in 10^-12 V;
-- a hop moves an electron from the site whose charge rises to the one whose charge falls
abbrev pub deciding_data : Deciding → Data
deciding_data (Population i k s) = object (member (codes "greatest") (whole s.hi)
    (member (codes "kind") (string (codes "population")) (member (codes "least") (whole s.lo)
    (member (codes "site") (natural i) (member (codes "test") (string (test_word k)) no_members)))))
deciding_data (Hop i j s) = object (member (codes "from") (natural i)
    (member (codes "greatest") (whole s.hi) (member (codes "kind") (string (codes "hop"))
    (member (codes "least") (whole s.lo) (member (codes "to") (natural j) no_members)))))
deciding_data (Rival j s) = object (member (codes "entry") (natural j)
    (member (codes "greatest") (whole s.hi) (member (codes "kind") (string (codes "rival"))
    (member (codes "least") (whole s.lo) no_members))))

-- the word of a mark
abbrev pub mark_word : Mark → List ℕ
mark_word Certain = codes "certain"
mark_word (Unresolved d) = codes "unresolved"

-- what an unresolved mark names
abbrev pub mark_data : Mark → Option Data
mark_data Certain = None
mark_data (Unresolved d) = Some (deciding_data d)

-- an entry, with its energy where that is given
abbrev pub entry_data : Option Span → Entry → Data
entry_data energy e = object (member (codes "charges") (string (charges_text e.charges))
    (with_optional (codes "deciding") (mark_data e.mark)
    (with_optional (codes "energy") (option_map energy_data energy)
    (member (codes "mark") (string (mark_word e.mark)) no_members))))
