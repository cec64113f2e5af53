-- what the reader knows of the marks behind a place
use Rattle.std.specs.Prelude.{◌≡◌, ℕ, List, [], ◌∷◌, ◌++◌, map, reverse, slice_get}
use Rattle.std.specs.List.{AllByRecursion}
use Rattle.sqd_marks.specs.Marks.{Tag}
use Rattle.sqd_nesting.specs.Texts.{Item, IsItem}
use Rattle.sqd_nesting.specs.Views.{ShowAll}
use Rattle.sqd_nesting.specs.declared.read.PlacedMark.{PlacedMark}
use Rattle.sqd_dots.specs.declared.tally.Tally.{Tally}
use Rattle.sqd_dots.specs.declared.reader.DotsReader.{DotsReader}
use Rattle.sqd_elements.specs.Elements.{Element, elements}
use Rattle.sqd_dots.specs.Dots.{dots_of, bad_places, skipped_of, is_siqad}
use Rattle.sqd_elements.specs.Kept.{inside_of}
use Rattle.sqd_dots.specs.Levels.{tiers_of, tier_names, insides_of, layers, Closes}

-- the tally of these elements, the last dot first
pub record IsTally (tally : Tally) (es : List Element) : Type 0 where
  pub dots : reverse tally.dots.items ≡ dots_of es
  pub bad : tally.bad ≡ slice_get (bad_places es) 0
  pub skipped : tally.skipped ≡ skipped_of es
  pub siqad : tally.siqad ≡ is_siqad es

-- the reader stands inside elements of these names, with these tags behind inside them, and has
-- seen these elements
pub record IsAt (r : DotsReader) (around : List (List ℕ)) (tags : List (List Tag))
    (es : List Element) : Type 0 where
  pub names : tier_names (tiers_of r.levels) ≡ around ++ [] ∷ []
  pub insides : insides_of (tiers_of r.levels) ≡ map inside_of tags
  pub tally : IsTally r.tally es

-- the reader has read these marks, the first last
pub record HasRead (r : DotsReader) (found : List PlacedMark) : Type 0 where
  pub state : (at : ℕ) (around : List (List ℕ)) (items : List Item) → ShowAll at found items
      → AllByRecursion IsItem items → Closes around items
      → IsAt r around (layers items) (elements at around items)
