-- a text draws a layout, or has a first fault
use Rattle.std.proofs.Common.{◌≢◌, ℕ, ◌<◌, ◌≤◌, ◌⊎◌, inl, inr, List, [], ◌∷◌, zero, suc, length, slice_get, arith, refl, sym, subst}
use Rattle.std.specs.Prelude.{All, IsSomeAnd}
use Rattle.std.proofs.lemmas.List.{append-nil, length-map}
use Rattle.std.proofs.lemmas.List.Elements.{All-get_or}
use Rattle.sidb_layout.specs.declared.TheConstants.{LEAST_SQUARED_DISTANCE}
use Rattle.sidb_layout.specs.declared.site.Site.{Site}
use Rattle.sidb_layout.specs.declared.site.Fix.{Fix}
use Rattle.sidb_layout.specs.declared.lattice.Lattice.{Lattice}
use Rattle.sidb_layout.specs.declared.fault.LayoutFault.{LayoutFault}
use Rattle.sidb_layout.specs.declared.fault.LayoutFault.TheVariants as refusals
use Rattle.sidb_layout.specs.Site.{IsInRange, places_of, origin}
use Rattle.sidb_layout.specs.Lattice.{silicon, squared_distance}
use Rattle.sidb_layout.specs.Layout.{Arrangement}
use Rattle.sidb_layout.specs.Refusal.{IsTooClose, IsFirstOutOfRange, IsFirstPair, AreDistinct, IsMadeOf, IsLayoutRefusal}
use Rattle.sqd_dots.specs.declared.drawing.Dot.{Dot}
use Rattle.sqd_dots.specs.Drawings.{IsDrawing, IsDrawingFault}
use Rattle.sqd_layout.specs.SqdFault.{SqdFault}
use Rattle.sqd_layout.specs.SqdFault.TheVariants.{OutOfRange, TooMany, Duplicate}
use Rattle.sqd_layout.specs.DotsFaults.{sites_in, BeginsAt, IsDotsFault, IsSqdText, IsSqdFault}

-- the laws below
abbrev pub SomeReading : Type 0
SomeReading = (text : List ℕ) → ((dots : List Dot) × (skipped : ℕ) × IsDrawing text dots skipped) ⊎ ((f : SqdFault) × IsDrawingFault text f)

abbrev pub IsMadeOrRefused : Lattice → List Site → List Fix → Type 0
IsMadeOrRefused v sites fixes =
    ((p : Arrangement) × IsMadeOf v sites fixes p × ((f : LayoutFault) → IsLayoutRefusal v sites fixes f → ⊥))
    ⊎ ((f : LayoutFault) × IsLayoutRefusal v sites fixes f)

abbrev pub MadeOrRefused : Type 0
MadeOrRefused = (v : Lattice) (sites : List Site) (fixes : List Fix) → IsMadeOrRefused v sites fixes

abbrev pub IsRoomy : Type 0
IsRoomy = (a b : Site) → IsInRange a → IsInRange b → a ≢ b → LEAST_SQUARED_DISTANCE ≤ squared_distance silicon a b

-- a dot of the list begins somewhere
begins : (dots : List Dot) (i : ℕ) → i < length dots → (at : ℕ) × BeginsAt dots i at
begins [] i within = absurd (omega (arith, within))
begins (d ∷ dots) zero within = (d.at, refl)
begins (d ∷ dots) (suc i) within = begins dots i (omega (arith, within))

within_sites : {X : Type 0} (xs : List X) (i : ℕ) (P : X → Type 0) → IsSomeAnd (slice_get xs i) P → i < length xs
within_sites [] i P h = absurd h
within_sites (x ∷ xs) zero P h = omega arith
within_sites (x ∷ xs) (suc i) P h = let l = within_sites xs i P h in omega (arith, l)

begins_outside : (dots : List Dot) (i : ℕ) → IsFirstOutOfRange (sites_in dots) [] i → (at : ℕ) × BeginsAt dots i at
begins_outside dots i (inl f) =
    let l = within_sites (sites_in dots) i (λ x. ¬ IsInRange x) f.outside in
    begins dots i (omega (arith, l, length-map dots (λ (d : Dot). d.site)))
begins_outside dots i (inr (a, e, all, f)) = absurd f.outside

-- without fixed charges the places are those of the sites
abbrev places_in : List Dot → List Site
places_in dots = places_of (sites_in dots) []

begins_place : (dots : List Dot) (i : ℕ) → i < length (places_in dots) → (at : ℕ) × BeginsAt dots i at
begins_place dots i within =
    let l : i < length (sites_in dots) = rw (append-nil (sites_in dots)) at within in
    begins dots i (omega (arith, l, length-map dots (λ (d : Dot). d.site)))

-- different places in range are never too close
never_close : IsRoomy → (sites : List Site) (i j : ℕ) → All IsInRange sites → AreDistinct (places_of sites [])
    → IsFirstPair (IsTooClose silicon) (places_of sites []) i j → ⊥
never_close roomy sites i j all distinct f =
    let places_in_range = subst (All IsInRange) (sym (append-nil sites)) all in
    let i_within : i < length (places_of sites []) = omega (arith, f.earliest.before, f.within) in
    let far = roomy _ _ (All-get_or IsInRange (places_of sites []) i origin i_within places_in_range)
    (All-get_or IsInRange (places_of sites []) j origin f.within places_in_range)
    (distinct i j origin f.earliest.before f.within) in
    omega (arith, far, f.earliest.related)

-- a refusal of the sites of dots is a fault of the dots
dots_fault : IsRoomy → (dots : List Dot) (r : LayoutFault) → IsLayoutRefusal silicon (sites_in dots) [] r → (f : SqdFault) × IsDotsFault dots f
dots_fault roomy dots (refusals.OutOfRange i) h = let at = begins_outside dots i h in (OutOfRange at.0, (i, at.1, h))
dots_fault roomy dots refusals.TooMany h = (TooMany, h)
dots_fault roomy dots refusals.TooManyFixes h = absurd (omega (arith, h.2))
dots_fault roomy dots (refusals.Duplicate i j) h =
    let i_within : i < length (places_in dots) = omega (arith, h.1.earliest.before, h.1.within) in
    let first = begins_place dots i i_within in
    let second = begins_place dots j h.1.within in
    (Duplicate first.0 second.0, (i, first.1, (j, second.1, h)))
dots_fault roomy dots (refusals.TooClose i j) h =
    absurd (never_close roomy (sites_in dots) i j h.0.in_range.all_sites h.1 h.2)
dots_fault roomy dots refusals.Memory h = absurd h

-- one of the two
abbrev pub IsDrawnOrFaulty : List ℕ → Type 0
IsDrawnOrFaulty text =
    ((layout : Arrangement) × (skipped : ℕ) × IsSqdText text layout skipped) ⊎ ((f : SqdFault) × IsSqdFault text f)

settled : IsRoomy → (text : List ℕ) (dots : List Dot) (skipped : ℕ) → IsDrawing text dots skipped → IsMadeOrRefused silicon (sites_in dots) []
    → IsDrawnOrFaulty text
settled roomy text dots skipped drawing (inl (p, made, none)) =
    inl (p, skipped, record { dots = dots; drawing = drawing; made = made })
settled roomy text dots skipped drawing (inr (r, refused)) =
    let fault = dots_fault roomy dots r refused in
    inr (fault.0, inr (record { dots = dots; skipped = skipped; drawing = drawing; found = fault.1 }))

pub each_text : SomeReading → MadeOrRefused → IsRoomy → (text : List ℕ) → IsDrawnOrFaulty text
each_text reading made roomy text = by (reading text)
  where
    by : ((dots : List Dot) × (skipped : ℕ) × IsDrawing text dots skipped) ⊎ ((f : SqdFault) × IsDrawingFault text f) → IsDrawnOrFaulty text
    by (inl (dots, skipped, drawing)) = settled roomy text dots skipped drawing (made silicon (sites_in dots) [])
    by (inr (f, found)) = inr (f, inl found)
