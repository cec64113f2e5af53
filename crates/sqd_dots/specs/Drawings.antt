-- the drawing of a text, and the first fault of any other text
use Rattle.std.specs.Prelude.{◌≡◌, ℕ, true, false, List, [], ◌∷◌}
use Rattle.sqd_nesting.specs.Texts.{Item, IsWhole}
use Rattle.sqd_nesting.specs.Faults.{IsFirstFault}
use Rattle.sqd_dots.specs.declared.drawing.Dot.{Dot}
use Rattle.sqd_scan.specs.declared.fault.SqdFault.{SqdFault}
use Rattle.sqd_scan.specs.declared.fault.SqdFault.TheVariants.{NotSiqad, BadSite}
use Rattle.sqd_elements.specs.Elements.{Element, elements_of}
use Rattle.sqd_dots.specs.Dots.{is_siqad, bad_places, dots_of, skipped_of}

-- the text is whole, and these are its elements, in the order of their `<`
pub record HasElements (text : List ℕ) (es : List Element) : Type 0 where
  pub items : List Item
  pub whole : IsWhole text items
  pub are : es ≡ elements_of text items

-- the text is a drawing of these dots, which skips so many items
pub record IsDrawing (text : List ℕ) (dots : List Dot) (skipped : ℕ) : Type 0 where
  pub elements : List Element
  pub read : HasElements text elements
  pub siqad : is_siqad elements ≡ true
  pub each_has_a_site : bad_places elements ≡ []
  pub drawn : dots ≡ dots_of elements
  pub counted : skipped ≡ skipped_of elements

-- the root of the text is missing or has another name
pub record IsNotSiqad (text : List ℕ) : Type 0 where
  pub elements : List Element
  pub read : HasElements text elements
  pub siqad : is_siqad elements ≡ false

-- the first dot without a site begins at this place
pub record IsBadSite (text : List ℕ) (at : ℕ) : Type 0 where
  pub elements : List Element
  pub read : HasElements text elements
  pub siqad : is_siqad elements ≡ true
  pub later : List ℕ
  pub bad : bad_places elements ≡ at ∷ later

-- the first fault of the text: that of its marks, or else of its root, or else of its dots
abbrev pub IsDrawingFault : List ℕ → SqdFault → Type 0
IsDrawingFault text NotSiqad = IsNotSiqad text
IsDrawingFault text (BadSite at) = IsBadSite text at
IsDrawingFault text fault = IsFirstFault text fault
