-- the layouts of texts in the manner of SiQAD, and the first fault of any other text
use Rattle.std.specs.Prelude.{◌≡◌, ◌⊎◌, ℕ, List, [], map, IsSomeAnd, slice_get}
use Rattle.sidb_layout.specs.declared.site.Site.{Site}
use Rattle.sidb_layout.specs.declared.fault.LayoutFault.TheVariants as refusals
use Rattle.sidb_layout.specs.Lattice.{silicon}
use Rattle.sidb_layout.specs.Layout.{Arrangement}
use Rattle.sidb_layout.specs.Refusal.{IsMadeOf, IsLayoutRefusal}
use Rattle.sqd_dots.specs.declared.drawing.Dot.{Dot}
use Rattle.sqd_dots.specs.Drawings.{IsDrawing, IsDrawingFault}
use Rattle.sqd_scan.specs.declared.fault.SqdFault.{SqdFault}
use Rattle.sqd_scan.specs.declared.fault.SqdFault.TheVariants.{OutOfRange, TooMany, Duplicate}

-- the sites of dots
abbrev pub sites_in : List Dot → List Site
sites_in dots = map (λ d. d.site) dots

-- the dot of this number, counted from 0, begins at this byte
abbrev pub BeginsAt : List Dot → ℕ → ℕ → Type 0
BeginsAt dots i at = IsSomeAnd (slice_get dots i) (λ d. d.at ≡ at)

-- the dot that begins at this byte has a number, counted from 0, with P
abbrev pub AtDot : List Dot → (ℕ → Type 0) → ℕ → Type 0
AtDot dots P at = (i : ℕ) × BeginsAt dots i at × P i

-- and for two dots
abbrev pub AtDots : List Dot → (ℕ → ℕ → Type 0) → ℕ → ℕ → Type 0
AtDots dots P first second = AtDot dots (λ i. AtDot dots (λ j. P i j) second) first

-- the faults of dots, in their order: each says that none before it comes
abbrev pub IsDotsFault : List Dot → SqdFault → Type 0
IsDotsFault dots (OutOfRange at) =
    AtDot dots (λ i. IsLayoutRefusal silicon (sites_in dots) [] (refusals.OutOfRange i)) at
IsDotsFault dots TooMany = IsLayoutRefusal silicon (sites_in dots) [] refusals.TooMany
IsDotsFault dots (Duplicate first second) =
    AtDots dots (λ i j. IsLayoutRefusal silicon (sites_in dots) []
    (refusals.Duplicate i j)) first second
IsDotsFault dots _ = ⊥

-- the text draws this layout on the default lattice, and skips so many items
pub record IsSqdText (text : List ℕ) (p : Arrangement) (skipped : ℕ) : Type 0 where
  pub dots : List Dot
  pub drawing : IsDrawing text dots skipped
  pub made : IsMadeOf silicon (sites_in dots) [] p

-- the text draws dots that have this fault
pub record HasDotsFault (text : List ℕ) (fault : SqdFault) : Type 0 where
  pub dots : List Dot
  pub skipped : ℕ
  pub drawing : IsDrawing text dots skipped
  pub found : IsDotsFault dots fault

-- the first fault of the text: that of its drawing, or else of the dots that it draws
abbrev pub IsSqdFault : List ℕ → SqdFault → Type 0
IsSqdFault text fault = IsDrawingFault text fault ⊎ HasDotsFault text fault
