-- the report of a ground list as one line of JSON
use Rattle.std.specs.Prelude.{◌≡◌, ℕ, Bool, true, false, List, [], ◌∷◌, ◌++◌, length, map, zip, codes, None, Some}
use Rattle.serde_json.specs.Data.{Data, string, array, object, member, no_members}
use Rattle.serde_json.specs.View.{items_of}
use Rattle.serde_json.specs.Written.{compact_text}
use Rattle.charge_model.specs.declared.span.Span.{Span}
use Rattle.charge_model.specs.Problem.{Problem}
use Rattle.charge_model.specs.GroundList.{Entry}
use Rattle.ground_report.specs.declared.about.About.{About}
use Rattle.ground_report.specs.Subject.{version_of, skipped_in}
use Rattle.ground_report.specs.Energies.{AreEnergies}
use Rattle.sim_report_json.specs.Parts.{natural, with_optional, sites_data, fixed_data, other_lattice_data, entry_data}

-- a report of these entries, with the keys in the order of their bytes
abbrev pub report_data : About → List Data → Data
report_data a entries = object (member (codes "count") (natural (length entries))
    (member (codes "entries") (array (items_of entries))
    (with_optional (codes "fixed") (fixed_data a.layout)
    (member (codes "kind") (string (codes "sidb-ground"))
    (with_optional (codes "lattice") (other_lattice_data a.layout)
    (member (codes "sites") (sites_data a.layout)
    (member (codes "skipped") (natural (skipped_in a))
    (member (codes "version") (natural (version_of a.layout)) no_members))))))))

-- an entry with its energy
abbrev pub entry_with_energy : Entry × Span → Data
entry_with_energy x = entry_data (Some x.1) x.0

-- the entries of a list, with these energies
pub record HaveEnergies (p : Problem) (es : List Entry) (entries : List Data) : Type 0 where
  pub spans : List Span
  pub energies : AreEnergies p es spans
  pub values : entries ≡ map entry_with_energy (zip es spans)

-- the entries of a list, without energies or with them
abbrev pub AreEntryData : Problem → List Entry → Bool → List Data → Type 0
AreEntryData p es false entries = entries ≡ map (entry_data None) es
AreEntryData p es true entries = HaveEnergies p es entries

-- one compact line of JSON with a line feed: the report of the entries
pub record IsGroundJson (a : About) (p : Problem) (es : List Entry) (energies : Bool)
    (text : List ℕ) : Type 0 where
  pub entries : List Data
  pub of_list : AreEntryData p es energies entries
  pub prints : text ≡ compact_text (report_data a entries) ++ 10 ∷ []
