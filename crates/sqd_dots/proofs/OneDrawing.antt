-- a text has one drawing or one first fault
use Rattle.std.proofs.Common.{◌≡◌, ◌∙◌, refl, sym, ap, ℕ, List, [], ◌∷◌, ◌⊎◌, inl, inr, Bool, true, false}
use Rattle.sqd_nesting.specs.Texts.{Item, IsWhole}
use Rattle.sqd_nesting.specs.Faults.{IsFirstFault}
use Rattle.sqd_elements.specs.Elements.{Element, elements_of}
use Rattle.sqd_dots.specs.declared.drawing.Dot.{Dot}
use Rattle.sqd_scan.specs.declared.fault.SqdFault.{SqdFault}
use Rattle.sqd_scan.specs.declared.fault.SqdFault.TheVariants.{NotSiqad, BadSite}
use Rattle.sqd_dots.specs.Dots.{is_siqad, bad_places, dots_of, skipped_of}
use Rattle.sqd_dots.specs.Drawings.{HasElements, IsDrawing, IsDrawingFault}

-- the laws on marks
abbrev pub OneReading : Type 0
OneReading = (text : List ℕ) (xs ys : List Item) → IsWhole text xs → IsWhole text ys → xs ≡ ys

abbrev pub OneFault : Type 0
OneFault = (text : List ℕ) (f g : SqdFault) → IsFirstFault text f → IsFirstFault text g → f ≡ g

abbrev pub NoFault : Type 0
NoFault = (text : List ℕ) (items : List Item) (f : SqdFault) → IsWhole text items → IsFirstFault text f → ⊥

same_elements : OneReading → (text : List ℕ) (a b : List Element) → HasElements text a → HasElements text b → a ≡ b
same_elements one text a b h g = h.are ∙ ap (elements_of text) (one text h.items g.items h.whole g.whole) ∙ sym g.are

pub one_drawing : OneReading → (text : List ℕ) (a b : List Dot) (j k : ℕ) → IsDrawing text a j → IsDrawing text b k → (a ≡ b) × (j ≡ k)
one_drawing one text a b j k h g =
    let same = same_elements one text h.elements g.elements h.read g.read in
    (h.drawn ∙ ap dots_of same ∙ sym g.drawn, h.counted ∙ ap skipped_of same ∙ sym g.counted)

pub one_fault : OneReading → OneFault → NoFault → (text : List ℕ) (f g : SqdFault) → IsDrawingFault text f → IsDrawingFault text g → f ≡ g
one_fault one fault none text NotSiqad NotSiqad h k = refl
one_fault one fault none text NotSiqad (BadSite at) h k =
    let same = same_elements one text h.elements k.elements h.read k.read in
    absurd (cc (h.siqad, k.siqad, ap is_siqad same))
one_fault one fault none text (BadSite at) NotSiqad h k =
    let same = same_elements one text h.elements k.elements h.read k.read in
    absurd (cc (h.siqad, k.siqad, ap is_siqad same))
one_fault one fault none text (BadSite at) (BadSite place) h k =
    let same = same_elements one text h.elements k.elements h.read k.read in
    let places : at ∷ h.later ≡ place ∷ k.later = sym h.bad ∙ ap bad_places same ∙ k.bad in
    let here : at ≡ place = cc places in
    ap BadSite here
one_fault one fault none text NotSiqad g h k = absurd (none text h.read.items g h.read.whole k)
one_fault one fault none text (BadSite at) g h k = absurd (none text h.read.items g h.read.whole k)
one_fault one fault none text f NotSiqad h k = absurd (none text k.read.items f k.read.whole h)
one_fault one fault none text f (BadSite at) h k = absurd (none text k.read.items f k.read.whole h)
one_fault one fault none text f g h k = fault text f g h k

pub no_fault : OneReading → NoFault → (text : List ℕ) (dots : List Dot) (skipped : ℕ) (f : SqdFault) → IsDrawing text dots skipped → IsDrawingFault text f → ⊥
no_fault one none text dots skipped NotSiqad h k =
    let same = same_elements one text h.elements k.elements h.read k.read in
    cc (h.siqad, k.siqad, ap is_siqad same)
no_fault one none text dots skipped (BadSite at) h k =
    let same = same_elements one text h.elements k.elements h.read k.read in
    let places : [] ≡ at ∷ k.later = sym h.each_has_a_site ∙ ap bad_places same ∙ k.bad in
    cc places
no_fault one none text dots skipped f h k = none text h.read.items f h.read.whole k

abbrev pub SomeReading : Type 0
SomeReading = (text : List ℕ) → ((items : List Item) × IsWhole text items) ⊎ ((f : SqdFault) × IsFirstFault text f)

abbrev pub Reading : List ℕ → Type 0
Reading text = ((dots : List Dot) × (skipped : ℕ) × IsDrawing text dots skipped) ⊎ ((f : SqdFault) × IsDrawingFault text f)

-- elements draw something, or have a fault
of_elements : (text : List ℕ) (es : List Element) → HasElements text es → (siqad : Bool) → is_siqad es ≡ siqad → (places : List ℕ) → bad_places es ≡ places → Reading text
of_elements text es h false s places b = inr (NotSiqad, record { elements = es; read = h; siqad = s })
of_elements text es h true s [] b = inl (
  dots_of es,
  skipped_of es,
  record { elements = es; read = h; siqad = s; each_has_a_site = b; drawn = refl; counted = refl },
)
of_elements text es h true s (at ∷ later) b = inr (BadSite at, record { elements = es; read = h; siqad = s; later = later; bad = b })

-- a first fault of marks is one of the drawing
pub marks_fault : (text : List ℕ) (f : SqdFault) → IsFirstFault text f → IsDrawingFault text f
marks_fault text NotSiqad h = elim h.found.found [ inl loud ↦ absurd (cc loud.fault_is) | inr behind ↦ absurd behind.found ]
marks_fault text (BadSite at) h = elim h.found.found [ inl loud ↦ absurd (cc loud.fault_is) | inr behind ↦ absurd behind.found ]
marks_fault text f h = h

pub some_reading : SomeReading → (text : List ℕ) → Reading text
some_reading marks text = elim (marks text) [
  | inl whole ↦
      let es : List Element = elements_of text whole.0 in
      of_elements text es (record { items = whole.0; whole = whole.1; are = refl }) (is_siqad es) refl (bad_places es) refl
  | inr fault ↦ inr (fault.0, marks_fault text fault.0 fault.1)
]
