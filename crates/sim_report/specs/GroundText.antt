-- the ground text: a ground list with its marks and what it is about, as lines of words
use Rattle.std.specs.Prelude.{◌≡◌, ℕ, Bool, true, false, if◌then◌else◌, List, [], ◌∷◌, ◌++◌, length, map, zip, codes, decimal, Option, None, Some}
use Rattle.std.specs.List.{enumerate_from}
use Rattle.std.specs.Fmt.{signed_decimal}
use Rattle.charge_model.specs.declared.span.Span.{Span}
use Rattle.charge_model.specs.Problem.{Problem}
use Rattle.charge_model.specs.GroundList.{Entry}
use Rattle.sidb_layout.specs.declared.site.Site.{Site}
use Rattle.sidb_layout.specs.declared.site.Fix.{Fix}
use Rattle.sidb_layout.specs.declared.lattice.Lattice.{Lattice}
use Rattle.sidb_layout.specs.Layout.{Arrangement}
use Rattle.text_rows.specs.Rows.{text_of, end_rows}
use Rattle.entry_lines.specs.EntryLines.{entry_words, span_words}
use Rattle.ground_report.specs.declared.about.About.{About}
use Rattle.ground_report.specs.Subject.{is_silicon, version_of, skipped_in}
use Rattle.ground_report.specs.Energies.{AreEnergies}

-- the line of a lattice: the step from column to column, that from row to row, and the offset of a
-- second atom, in hundredths of an ångström
abbrev pub lattice_row : Lattice → List (List ℕ)
lattice_row v = codes "lattice" ∷ signed_decimal v.ax ∷ signed_decimal v.ay ∷ signed_decimal v.bx
    ∷ signed_decimal v.by ∷ signed_decimal v.cx ∷ signed_decimal v.cy ∷ []

-- another lattice than that of silicon has a line
abbrev pub lattice_rows : Lattice → List (List (List ℕ))
lattice_rows v = if is_silicon v then [] else lattice_row v ∷ []

-- the line of a site: its number in row order, and its place
abbrev pub site_row : ℕ × Site → List (List ℕ)
site_row x = codes "site" ∷ decimal x.0
    ∷ signed_decimal x.1.n ∷ signed_decimal x.1.m ∷ signed_decimal x.1.l ∷ []

-- the line of a fixed charge: its number in row order, its place and its charge
abbrev pub fix_row : ℕ × Fix → List (List ℕ)
fix_row x = codes "fix" ∷ decimal x.0 ∷ signed_decimal x.1.site.n ∷ signed_decimal x.1.site.m
    ∷ signed_decimal x.1.site.l ∷ signed_decimal x.1.charge ∷ []

-- the lines of a layout: its lattice, its sites and its fixed charges
abbrev pub layout_rows : Option Arrangement → List (List (List ℕ))
layout_rows None = []
layout_rows (Some l) = lattice_rows l.lattice
    ++ (map site_row (enumerate_from 0 l.sites) ++ map fix_row (enumerate_from 0 l.fixes))

-- the first two lines: the version, and how many sites there are
abbrev pub ground_title_rows : About → ℕ → List (List (List ℕ))
ground_title_rows a sites = (codes "sidb-ground" ∷ decimal (version_of a.layout) ∷ [])
    ∷ (codes "sites" ∷ decimal sites ∷ []) ∷ []

-- how many items were skipped, and how many entries there are
abbrev pub count_rows : About → ℕ → List (List (List ℕ))
count_rows a entries = (codes "skipped" ∷ decimal (skipped_in a) ∷ [])
    ∷ (codes "entries" ∷ decimal entries ∷ []) ∷ []

-- the text with this title and these lines of entries
abbrev pub titled_text : List (List (List ℕ)) → About → List (List (List ℕ)) → List ℕ
titled_text title a rows = text_of (title
    ++ (layout_rows a.layout ++ (count_rows a (length rows) ++ (rows ++ end_rows))))

-- the line of an entry with its least and greatest energy at scale 1, in 10^-12 V
abbrev pub energy_row : Entry × Span → List (List ℕ)
energy_row x = entry_words x.0 ++ (codes "energy" ∷ span_words x.1)

-- the lines of the entries, with their energies
pub record AreLinesWithEnergies (p : Problem) (es : List Entry) (text : List ℕ) : Type 0 where
  pub spans : List Span
  pub energies : AreEnergies p es spans
  pub prints : text ≡ text_of (map energy_row (zip es spans))

-- the lines of the entries, without energies or with them
abbrev pub AreEntryLines : Problem → List Entry → Bool → List ℕ → Type 0
AreEntryLines p es false text = text ≡ text_of (map entry_words es)
AreEntryLines p es true text = AreLinesWithEnergies p es text

-- the ground text without energies
abbrev pub plain_text : About → ℕ → List Entry → List ℕ
plain_text a sites es = titled_text (ground_title_rows a sites) a (map entry_words es)

-- the text with this title and each entry with its energy
pub record IsTextWithEnergies (title : List (List (List ℕ))) (a : About) (p : Problem)
    (es : List Entry) (text : List ℕ) : Type 0 where
  pub spans : List Span
  pub energies : AreEnergies p es spans
  pub prints : text ≡ titled_text title a (map energy_row (zip es spans))

-- the text with this title and these entries, without energies or with them
abbrev pub IsTitledText : List (List (List ℕ)) → About → Problem → List Entry → Bool → List ℕ
    → Type 0
IsTitledText title a p es false text = text ≡ titled_text title a (map entry_words es)
IsTitledText title a p es true text = IsTextWithEnergies title a p es text

-- the ground text, without energies or with them
abbrev pub IsGroundText : About → Problem → List Entry → Bool → List ℕ → Type 0
IsGroundText a p es energies text = IsTitledText (ground_title_rows a p.sites) a p es energies text
