-- the layouts of sites texts, and the first fault of any other text
use Rattle.std.specs.Prelude.{◌≡◌, ℕ, ◌+◌, ◌<◌, ◌≤◌, List, All, length, take, count_by, Option, IsSome, IsSomeAnd, MatchOption}
use Rattle.charge_model.specs.declared.TheConstants.{MAX_SITES, MAX_FIXED}
use Rattle.sidb_layout.specs.declared.site.Site.{Site}
use Rattle.sidb_layout.specs.declared.lattice.Lattice.{Lattice as CrystalLattice}
use Rattle.sidb_layout.specs.Site.{IsInRange, IsFixInRange}
use Rattle.sidb_layout.specs.Lattice.{silicon, AreVectors, HasVectors}
use Rattle.sidb_layout.specs.Layout.{Arrangement}
use Rattle.sidb_layout.specs.Refusal.{IsFirstOutside, IsTooClose, IsMadeOf}
use Rattle.sites_layout.specs.declared.line.Vectors.{Vectors}
use Rattle.sites_layout.specs.declared.line.SitesLine.{SitesLine}
use Rattle.sites_layout.specs.declared.line.SitesLine.TheVariants.{Empty, Place, Charge, Lattice}
use Rattle.sqd_scan.specs.declared.fault.SqdFault.{SqdFault}
use Rattle.sqd_scan.specs.declared.fault.SqdFault.TheVariants.{BadLine, OutOfRange, TooMany, TooManyFixes, Duplicate, TooClose}
use Rattle.sites_layout.specs.SitesLines.{lines_in, sites_lines_of, is_lattice, place_on, sites_in_lines, fixes_of, vectors_of}

-- each is a line, and at most one of them is a line `lattice`
pub record AreFineSitesLines (found : List (Option SitesLine)) : Type 0 where
  pub each : All (λ line. IsSome line) found
  pub one_lattice : count_by is_lattice found ≤ 1

-- i is the first, counted from 0, that is no line or is a second line `lattice`
pub record IsFirstBadLine (found : List (Option SitesLine)) (i : ℕ) : Type 0 where
  pub before : AreFineSitesLines (take i found)
  pub here : ¬ AreFineSitesLines (take (i + 1) found)

-- the vectors are those of a lattice
abbrev pub AreInReach : Vectors → Type 0
AreInReach v = AreVectors v.column.x v.column.y v.row.x v.row.y v.atom.x v.atom.y

-- a lattice has these vectors
abbrev pub HasTheseVectors : Vectors → CrystalLattice → Type 0
HasTheseVectors w v = HasVectors w.column.x w.column.y w.row.x w.row.y w.atom.x w.atom.y v

-- the numbers of a line are in range
abbrev pub IsLineInRange : SitesLine → Type 0
IsLineInRange Empty = Unit {0}
IsLineInRange (Place site) = IsInRange site
IsLineInRange (Charge fix) = IsFixInRange fix
IsLineInRange (Lattice vectors) = AreInReach vectors

-- the numbers of all lines are in range
abbrev pub AreLinesInRange : List SitesLine → Type 0
AreLinesInRange ls = All IsLineInRange ls

-- and there are few enough sites and fixed charges
pub record AreFewLines (ls : List SitesLine) : Type 0 where
  pub in_range : AreLinesInRange ls
  pub few_sites : length (sites_in_lines ls) ≤ MAX_SITES
  pub few_fixes : length (fixes_of ls) ≤ MAX_FIXED

-- R relates the place on line i to the place on line j
abbrev pub AreRelated : (Site → Site → Type 0) → List SitesLine → ℕ → ℕ → Type 0
AreRelated R ls i j = IsSomeAnd (place_on ls j) (λ b. IsSomeAnd (place_on ls i) (λ a. R a b))

-- R relates no place to one on an earlier line
abbrev pub HasNoClash : (Site → Site → Type 0) → List SitesLine → Type 0
HasNoClash R ls = (h k : ℕ) → h < k → k < length ls → ¬ AreRelated R ls h k

-- i is the earliest line before line j to whose place R relates the place on line j
pub record IsEarliestClash (R : Site → Site → Type 0) (ls : List SitesLine) (i j : ℕ) : Type 0 where
  pub before : i < j
  pub related : AreRelated R ls i j
  pub earliest : (h : ℕ) → h < i → ¬ AreRelated R ls h j

-- j is the first line whose place R relates to an earlier one, and i the earliest such
pub record IsFirstClash (R : Site → Site → Type 0) (ls : List SitesLine) (i j : ℕ) : Type 0 where
  pub within : j < length ls
  pub earliest : IsEarliestClash R ls i j
  pub first : (h k : ℕ) → h < k → k < j → ¬ AreRelated R ls h k

-- the lattice that the lines give: that of the vectors of the line `lattice`, or else the default
abbrev pub IsLatticeOf : List SitesLine → CrystalLattice → Type 0
IsLatticeOf ls v = MatchOption (vectors_of ls) (v ≡ silicon)
    (λ w. HasTheseVectors w v)

-- few enough lines in range, with no place given twice and no two of them too close
pub record IsClear (v : CrystalLattice) (ls : List SitesLine) : Type 0 where
  pub few : AreFewLines ls
  pub distinct : HasNoClash (λ a b. a ≡ b) ls
  pub apart : HasNoClash (IsTooClose v) ls

-- the lines give this layout
pub record IsLayoutOf (ls : List SitesLine) (p : Arrangement) : Type 0 where
  pub lattice : CrystalLattice
  pub of_lines : IsLatticeOf ls lattice
  pub clear : IsClear lattice ls
  pub made : IsMadeOf lattice (sites_in_lines ls) (fixes_of ls) p

-- line i has the number k, counted from 1
abbrev pub AtLine : (ℕ → Type 0) → ℕ → Type 0
AtLine P k = (i : ℕ) × (k ≡ i + 1) × P i

-- and for two lines
abbrev pub AtLines : (ℕ → ℕ → Type 0) → ℕ → ℕ → Type 0
AtLines P k m = AtLine (λ i. AtLine (λ j. P i j) m) k

-- the faults of lines, in their order: each says that none before it comes
abbrev pub IsLinesFault : List SitesLine → SqdFault → Type 0
IsLinesFault ls (OutOfRange k) = AtLine (IsFirstOutside IsLineInRange ls) k
IsLinesFault ls TooMany = AreLinesInRange ls × (MAX_SITES < length (sites_in_lines ls))
IsLinesFault ls TooManyFixes = AreLinesInRange ls × (length (sites_in_lines ls) ≤ MAX_SITES)
    × (MAX_FIXED < length (fixes_of ls))
IsLinesFault ls (Duplicate k m) = AreFewLines ls × AtLines (IsFirstClash (λ a b. a ≡ b) ls) k m
IsLinesFault ls (TooClose k m) = AreFewLines ls × HasNoClash (λ a b. a ≡ b) ls
    × ((v : CrystalLattice) × IsLatticeOf ls v × AtLines (IsFirstClash (IsTooClose v) ls) k m)
IsLinesFault ls _ = ⊥

-- the text is a sites text of this layout
pub record IsSitesText (text : List ℕ) (p : Arrangement) : Type 0 where
  pub fine : AreFineSitesLines (lines_in text)
  pub layout : IsLayoutOf (sites_lines_of text) p

-- the first fault of the text
abbrev pub IsSitesFault : List ℕ → SqdFault → Type 0
IsSitesFault text (BadLine k) = AtLine (IsFirstBadLine (lines_in text)) k
IsSitesFault text fault = AreFineSitesLines (lines_in text)
    × IsLinesFault (sites_lines_of text) fault
