-- a report has no float, so its compact text is known
use Rattle.std.proofs.Common.{◌≡◌, ◌∙◌, ℤ, pos, negsuc, ℕ, List, [], ◌∷◌, map, Option, Some, None, Bool, true, false, refl, ap, codes}
use Rattle.std.specs.Prelude.{zip, option_map, if◌then◌else◌}
use Rattle.serde_json.specs.Data.{Data, Members}
use Rattle.serde_json.specs.Find.{is_float, of_integer}
use Rattle.serde_json.specs.View.{items_of}
use Rattle.serde_json.specs.Written.{has_float, items_have_float, members_have_float}
use Rattle.charge_model.specs.declared.span.Span.{Span}
use Rattle.charge_model.specs.declared.mark.Deciding.{Deciding}
use Rattle.charge_model.specs.declared.mark.Deciding.TheVariants.{Population, Hop, Rival}
use Rattle.charge_model.specs.declared.mark.Mark.{Mark}
use Rattle.charge_model.specs.declared.mark.Mark.TheVariants.{Certain, Unresolved}
use Rattle.charge_model.specs.Problem.{Problem}
use Rattle.charge_model.specs.GroundList.{Entry}
use Rattle.sidb_layout.specs.declared.site.Site.{Site}
use Rattle.sidb_layout.specs.declared.site.Fix.{Fix}
use Rattle.sidb_layout.specs.Layout.{Arrangement}
use Rattle.ground_report.specs.declared.about.About.{About}
use Rattle.ground_report.specs.Subject.{is_silicon}
use Rattle.sim_report_json.specs.Parts.{with_optional, site_data, fix_data, fixes_data, fixed_data, lattice_data, other_lattice_data, sites_data, energy_data, deciding_data, mark_data, entry_data}
use Rattle.sim_report_json.specs.GroundJson.{report_data, entry_with_energy, AreEntryData}

whole_no_float : (z : ℤ) → is_float (of_integer z) ≡ false
whole_no_float (pos n) = refl
whole_no_float (negsuc n) = refl

-- what is given has no float
abbrev HasNone : Option Data → Type 0
HasNone None = Unit {0}
HasNone (Some d) = has_float d ≡ false

optional_no_float : (key : List ℕ) (d : Option Data) (rest : Members) → HasNone d → members_have_float rest ≡ false → members_have_float (with_optional key d rest) ≡ false
optional_no_float key None rest of_d of_rest = of_rest
optional_no_float key (Some d) rest of_d of_rest = rw of_d of_rest

deciding_no_float : (d : Deciding) → has_float (deciding_data d) ≡ false
deciding_no_float (Population site test span) = simp whole_no_float
deciding_no_float (Hop from to span) = simp whole_no_float
deciding_no_float (Rival entry span) = simp whole_no_float

mark_no_float : (m : Mark) → HasNone (mark_data m)
mark_no_float Certain = _
mark_no_float (Unresolved d) = deciding_no_float d

energy_no_float : (s : Option Span) → HasNone (option_map energy_data s)
energy_no_float None = _
energy_no_float (Some s) = simp whole_no_float

entry_no_float : (energy : Option Span) (e : Entry) → has_float (entry_data energy e) ≡ false
entry_no_float energy e = optional_no_float (codes "deciding") (mark_data e.mark) _ (mark_no_float e.mark) (optional_no_float (codes "energy") (option_map energy_data energy) _ (energy_no_float energy) refl)

pub plain_no_float : (es : List Entry) → items_have_float (items_of (map (entry_data None) es)) ≡ false
plain_no_float [] = refl
plain_no_float (e ∷ es) = rw (entry_no_float None e) (plain_no_float es)

energies_no_float : (xs : List (Entry × Span)) → items_have_float (items_of (map entry_with_energy xs)) ≡ false
energies_no_float [] = refl
energies_no_float (x ∷ xs) = rw (entry_no_float (Some x.1) x.0) (energies_no_float xs)

entries_no_float : (p : Problem) (es : List Entry) (energies : Bool) (entries : List Data) → AreEntryData p es energies entries → items_have_float (items_of entries) ≡ false
entries_no_float p es false entries is = ap (λ ds. items_have_float (items_of ds)) is ∙ plain_no_float es
entries_no_float p es true entries is = ap (λ ds. items_have_float (items_of ds)) is.values ∙ energies_no_float (zip es is.spans)

sites_no_float : (ss : List Site) → items_have_float (items_of (map site_data ss)) ≡ false
sites_no_float [] = refl
sites_no_float (s ∷ ss) = simp whole_no_float (sites_no_float ss)

fixes_no_float : (fs : List Fix) → items_have_float (items_of (map fix_data fs)) ≡ false
fixes_no_float [] = refl
fixes_no_float (f ∷ fs) = simp whole_no_float (fixes_no_float fs)

layout_sites_no_float : (l : Option Arrangement) → has_float (sites_data l) ≡ false
layout_sites_no_float None = refl
layout_sites_no_float (Some l) = sites_no_float l.sites

some_fixes_no_float : (fs : List Fix) → HasNone (fixes_data fs)
some_fixes_no_float [] = _
some_fixes_no_float (f ∷ fs) = fixes_no_float (f ∷ fs)

fixed_no_float : (l : Option Arrangement) → HasNone (fixed_data l)
fixed_no_float None = _
fixed_no_float (Some l) = some_fixes_no_float l.fixes

one_lattice_no_float : (b : Bool) (d : Data) → has_float d ≡ false → HasNone (if b then None else Some d)
one_lattice_no_float true d none = _
one_lattice_no_float false d none = none

lattice_no_float : (l : Option Arrangement) → HasNone (other_lattice_data l)
lattice_no_float None = _
lattice_no_float (Some l) = one_lattice_no_float (is_silicon l.lattice) (lattice_data l.lattice) (simp whole_no_float)

pub report_no_float : (a : About) (p : Problem) (es : List Entry) (energies : Bool) (entries : List Data) → AreEntryData p es energies entries → has_float (report_data a entries) ≡ false
report_no_float a p es energies entries is =
    let last = optional_no_float (codes "lattice") (other_lattice_data a.layout) _ (lattice_no_float a.layout) (rw (layout_sites_no_float a.layout) refl) in
    rw (entries_no_float p es energies entries is) (optional_no_float (codes "fixed") (fixed_data a.layout) _ (fixed_no_float a.layout) last)
