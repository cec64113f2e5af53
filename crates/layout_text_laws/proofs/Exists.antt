-- each text is a sites text, or has a first fault
use Rattle.std.proofs.Common.{◌≡◌, refl, ℕ, ◌+◌, ◌<◌, ◌≤◌, List, length, ◌⊎◌, inl, inr, arith}
use Rattle.std.proofs.lemmas.Bool.{cases_lt}
use Rattle.charge_model.specs.declared.TheConstants.{MAX_SITES, MAX_FIXED}
use Rattle.sidb_layout.specs.declared.site.Site.{Site}
use Rattle.sidb_layout.specs.declared.lattice.Lattice.{Lattice as CrystalLattice}
use Rattle.sidb_layout.specs.declared.TheConstants.{LEAST_SQUARED_DISTANCE}
use Rattle.sidb_layout.specs.Lattice.{squared_distance}
use Rattle.sidb_layout.specs.Layout.{Arrangement}
use Rattle.sidb_layout.specs.Refusal.{IsFirstOutside, IsTooClose}
use Rattle.sites_layout.specs.declared.line.SitesLine.{SitesLine}
use Rattle.sqd_layout.specs.SqdFault.{SqdFault}
use Rattle.sqd_layout.specs.SqdFault.TheVariants.{BadLine, OutOfRange, TooMany, TooManyFixes, Duplicate, TooClose}
use Rattle.sites_layout.specs.SitesLines.{lines_in, sites_lines_of, sites_in_lines, fixes_of}
use Rattle.sites_layout.specs.SitesFaults.{AreFineSitesLines, IsFirstBadLine, IsLineInRange, AreLinesInRange, AreFewLines, HasNoClash, IsFirstClash, IsLatticeOf, IsClear, IsLinesFault, IsLayoutOf, IsSitesText, IsSitesFault}
use Rattle.layout_text_laws.proofs.Decided.{Decided}
use Rattle.layout_text_laws.proofs.LawsBelow.{AreLaws}
use Rattle.layout_text_laws.proofs.Firsts.{all_or_first, fine_or_bad, none_or_clash}
use Rattle.layout_text_laws.proofs.Ranges.{line_decided, some_lattice}

-- whether two places are too close
close_decided : (v : CrystalLattice) (a b : Site) → Decided (IsTooClose v a b)
close_decided v a b = by (cases_lt (squared_distance v a b) LEAST_SQUARED_DISTANCE)
  where
    by : (squared_distance v a b < LEAST_SQUARED_DISTANCE) ⊎ (LEAST_SQUARED_DISTANCE ≤ squared_distance v a b) → Decided (IsTooClose v a b)
    by (inl close) = inl close
    by (inr apart) = inr (λ close. omega (arith, apart, close))

-- the lines give a layout, or have a fault
abbrev HaveReading : List SitesLine → Type 0
HaveReading ls = ((p : Arrangement) × IsLayoutOf ls p) ⊎ ((fault : SqdFault) × IsLinesFault ls fault)

-- lines without a clash give a layout
clear_lines : AreLaws → (ls : List SitesLine) → AreFewLines ls → HasNoClash (λ a b. a ≡ b) ls → (v : CrystalLattice) → IsLatticeOf ls v
    → HasNoClash (IsTooClose v) ls → HaveReading ls
clear_lines laws ls few distinct v of_lines apart =
    let clear : IsClear v ls = record { few = few; distinct = distinct; apart = apart } in
    let made = laws.layout_of_clear v ls clear in inl (made.0, record { lattice = v; of_lines = of_lines; clear = clear; made = made.1 })

by_distances : AreLaws → (ls : List SitesLine) → AreFewLines ls → HasNoClash (λ a b. a ≡ b) ls → (v : CrystalLattice) → IsLatticeOf ls v → HaveReading ls
by_distances laws ls few distinct v of_lines = by (none_or_clash (IsTooClose v) (close_decided v) ls)
  where
    by : HasNoClash (IsTooClose v) ls ⊎ ((i : ℕ) × (j : ℕ) × IsFirstClash (IsTooClose v) ls i j) → HaveReading ls
    by (inl apart) = clear_lines laws ls few distinct v of_lines apart
    by (inr (i, j, clash)) = inr (TooClose (i + 1) (j + 1), (few, distinct, (v, of_lines, (i, refl, (j, refl, clash)))))

by_places : AreLaws → (ls : List SitesLine) → AreFewLines ls → HaveReading ls
by_places laws ls few = by (none_or_clash (λ a b. a ≡ b) laws.same_decided ls)
  where
    by : HasNoClash (λ a b. a ≡ b) ls ⊎ ((i : ℕ) × (j : ℕ) × IsFirstClash (λ a b. a ≡ b) ls i j) → HaveReading ls
    by (inl distinct) = let lattice = some_lattice ls few.in_range in by_distances laws ls few distinct lattice.0 lattice.1
    by (inr (i, j, clash)) = inr (Duplicate (i + 1) (j + 1), (few, (i, refl, (j, refl, clash))))

by_counts : AreLaws → (ls : List SitesLine) → AreLinesInRange ls → HaveReading ls
by_counts laws ls all = by (cases_lt MAX_SITES (length (sites_in_lines ls))) (cases_lt MAX_FIXED (length (fixes_of ls)))
  where
    by : (MAX_SITES < length (sites_in_lines ls)) ⊎ (length (sites_in_lines ls) ≤ MAX_SITES) → (MAX_FIXED < length (fixes_of ls)) ⊎ (length (fixes_of ls) ≤ MAX_FIXED) → HaveReading ls
    by (inl many) fixes = inr (TooMany, (all, many))
    by (inr sites) (inl many) = inr (TooManyFixes, (all, sites, many))
    by (inr sites) (inr fixes) = by_places laws ls (record { in_range = all; few_sites = sites; few_fixes = fixes })

lines_reading : AreLaws → (ls : List SitesLine) → HaveReading ls
lines_reading laws ls = by (all_or_first IsLineInRange (line_decided laws) ls)
  where
    by : AreLinesInRange ls ⊎ ((i : ℕ) × IsFirstOutside IsLineInRange ls i) → HaveReading ls
    by (inl all) = by_counts laws ls all
    by (inr (i, first)) = inr (OutOfRange (i + 1), (i, refl, first))

-- the text is a sites text, or has a fault
abbrev pub HasReading : List ℕ → Type 0
HasReading text = ((p : Arrangement) × IsSitesText text p) ⊎ ((fault : SqdFault) × IsSitesFault text fault)

-- a fault of fine lines is one of the text
lines_fault : (text : List ℕ) → AreFineSitesLines (lines_in text) → (fault : SqdFault) → IsLinesFault (sites_lines_of text) fault → IsSitesFault text fault
lines_fault text fine (BadLine k) wrong = absurd wrong
lines_fault text fine fault wrong = (fine, wrong)

pub has_reading : AreLaws → (text : List ℕ) → HasReading text
has_reading laws text = by (fine_or_bad (lines_in text))
  where
    fine_text : AreFineSitesLines (lines_in text) → HaveReading (sites_lines_of text) → HasReading text
    fine_text fine (inl (p, layout)) = inl (p, record { fine = fine; layout = layout })
    fine_text fine (inr (fault, wrong)) = inr (fault, lines_fault text fine fault wrong)

    by : AreFineSitesLines (lines_in text) ⊎ ((i : ℕ) × IsFirstBadLine (lines_in text) i) → HasReading text
    by (inl fine) = fine_text fine (lines_reading laws (sites_lines_of text))
    by (inr (i, bad)) = inr (BadLine (i + 1), (i, refl, bad))
