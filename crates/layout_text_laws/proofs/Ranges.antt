-- whether the numbers of a line are in range, and the lattice of lines that are
use Rattle.std.proofs.Common.{◌≡◌, refl, ℕ, ◌+◌, ◌≤◌, List, [], ◌∷◌, inl, unsigned_abs, Option, None, Some}
use Rattle.std.specs.Prelude.{MatchOption}
use Rattle.std.proofs.lemmas.List.Elements.{All-head, All-tail}
use Rattle.sidb_layout.specs.declared.TheConstants.{MAX_STEPS, MAX_OFFSET}
use Rattle.sidb_layout.specs.declared.lattice.Lattice.{Lattice as CrystalLattice}
use Rattle.sidb_layout.specs.Lattice.{silicon}
use Rattle.sites_layout.specs.declared.line.Vectors.{Vectors}
use Rattle.sites_layout.specs.declared.line.SitesLine.{SitesLine}
use Rattle.sites_layout.specs.declared.line.SitesLine.TheVariants.{Empty, Place, Charge, Lattice}
use Rattle.sites_layout.specs.SitesLines.{vectors_of}
use Rattle.sites_layout.specs.SitesFaults.{AreInReach, HasTheseVectors, IsLineInRange, AreLinesInRange, IsLatticeOf}
use Rattle.layout_text_laws.proofs.Decided.{Decided, decided_by, both_decided, le_decided}
use Rattle.layout_text_laws.proofs.LawsBelow.{AreLaws}

-- the bounds of vectors along x and y
abbrev AreBounded : Vectors → Type 0
AreBounded v =
    ((unsigned_abs v.column.x + unsigned_abs v.row.x ≤ MAX_STEPS) × (unsigned_abs v.column.y + unsigned_abs v.row.y ≤ MAX_STEPS))
    × ((unsigned_abs v.atom.x ≤ MAX_OFFSET) × (unsigned_abs v.atom.y ≤ MAX_OFFSET))

both_at_most : (a b m : ℕ) → Decided ((a ≤ m) × (b ≤ m))
both_at_most a b m = both_decided (a ≤ m) (b ≤ m) (le_decided a m) (le_decided b m)

vectors_decided : (v : Vectors) → Decided (AreInReach v)
vectors_decided v =
    decided_by (AreBounded v) (AreInReach v)
    (λ h. record { x_steps = h.0.0; y_steps = h.0.1; x_offset = h.1.0; y_offset = h.1.1 })
    (λ h. ((h.x_steps, h.y_steps), (h.x_offset, h.y_offset)))
    (both_decided ((unsigned_abs v.column.x + unsigned_abs v.row.x ≤ MAX_STEPS) × (unsigned_abs v.column.y + unsigned_abs v.row.y ≤ MAX_STEPS))
    ((unsigned_abs v.atom.x ≤ MAX_OFFSET) × (unsigned_abs v.atom.y ≤ MAX_OFFSET))
    (both_at_most (unsigned_abs v.column.x + unsigned_abs v.row.x) (unsigned_abs v.column.y + unsigned_abs v.row.y) MAX_STEPS)
    (both_at_most (unsigned_abs v.atom.x) (unsigned_abs v.atom.y) MAX_OFFSET))

pub line_decided : AreLaws → (l : SitesLine) → Decided (IsLineInRange l)
line_decided laws Empty = inl tt
line_decided laws (Place site) = laws.site_decided site
line_decided laws (Charge fix) = laws.fix_decided fix
line_decided laws (Lattice vectors) = vectors_decided vectors

-- the vectors of lines in range are in reach
in_reach : (ls : List SitesLine) → AreLinesInRange ls → MatchOption (vectors_of ls) (Unit {0}) AreInReach
in_reach [] all = tt
in_reach (Empty ∷ ls) all = in_reach ls (All-tail IsLineInRange Empty ls all)
in_reach (Place site ∷ ls) all = in_reach ls (All-tail IsLineInRange (Place site) ls all)
in_reach (Charge fix ∷ ls) all = in_reach ls (All-tail IsLineInRange (Charge fix) ls all)
in_reach (Lattice vectors ∷ ls) all = All-head IsLineInRange (Lattice vectors) ls all

built : (w : Vectors) → AreInReach w → CrystalLattice
built w reach = record {
  ax = w.column.x;
  ay = w.column.y;
  bx = w.row.x;
  by = w.row.y;
  cx = w.atom.x;
  cy = w.atom.y;
  x_steps = reach.x_steps;
  y_steps = reach.y_steps;
  x_offset = reach.x_offset;
  y_offset = reach.y_offset;
}

-- lines in range give a lattice
pub some_lattice : (ls : List SitesLine) → AreLinesInRange ls → (v : CrystalLattice) × IsLatticeOf ls v
unfolding built
some_lattice ls all = by (vectors_of ls) (in_reach ls all)
  where
    by : (o : Option Vectors) → MatchOption o (Unit {0}) AreInReach → (v : CrystalLattice) × MatchOption o (v ≡ silicon) (λ w. HasTheseVectors w v)
    by None reach = (silicon, refl)
    by (Some w) reach = (built w reach, record { column_x = refl; column_y = refl; row_x = refl; row_y = refl; atom_x = refl; atom_y = refl })
