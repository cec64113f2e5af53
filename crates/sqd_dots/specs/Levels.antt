-- what the reader keeps of the elements around a place, and of the tags behind it inside each
use Rattle.std.specs.Prelude.{◌≡◌, ℕ, List, [], ◌∷◌, ◌++◌, map, reverse}
use Rattle.sqd_marks.specs.Marks.{start, empty, close, Tag}
use Rattle.sqd_nesting.specs.Texts.{Item}
use Rattle.sqd_elements.specs.declared.kept.Inside.{Inside}
use Rattle.sqd_dots.specs.declared.levels.OpenElement.{OpenElement}
use Rattle.sqd_dots.specs.declared.levels.OpenElements.{OpenElements}
use Rattle.sqd_elements.specs.Elements.{without_nearest}

-- the name of an element around, and what is inside it behind the place
pub record Tier : Type 0 where
  pub name : List ℕ
  pub inside : Inside

-- the tier of these
abbrev pub tier_named : List ℕ → Inside → Tier
tier_named name inside = record { name = name; inside = inside }

-- a level without where its name lies
abbrev pub tier_of : OpenElement → Tier
tier_of l = tier_named l.name.now l.inside

-- the levels, the nearest first
abbrev pub tiers_of : OpenElements → List Tier
tiers_of ls = tier_of ls.inner ∷ map tier_of (reverse ls.outer.items)

-- their names
abbrev pub tier_names : List Tier → List (List ℕ)
tier_names tiers = map (λ t. t.name) tiers

-- what is inside each
abbrev pub insides_of : List Tier → List Inside
insides_of tiers = map (λ t. t.inside) tiers

-- the items close elements of these names, the nearest first, and all that they begin
abbrev pub Closes : List (List ℕ) → List Item → Type 0
Closes around [] = around ≡ []
Closes around (i ∷ items) = elim i.mark [
  | start tag ↦ Closes (tag.name ∷ around) items
  | close name after ↦
      (around ≡ name ∷ without_nearest around) × Closes (without_nearest around) items
  | _ ↦ Closes around items
]

-- a tag and those inside it stand before those of the element around
abbrev pub merged : Tag → List (List Tag) → List (List Tag)
merged tag [] = (tag ∷ []) ∷ []
merged tag (inner ∷ []) = (tag ∷ inner) ∷ []
merged tag (inner ∷ outer ∷ more) = (tag ∷ (inner ++ outer)) ∷ more

-- a tag before the others
abbrev pub preceded : Tag → List (List Tag) → List (List Tag)
preceded tag [] = (tag ∷ []) ∷ []
preceded tag (inner ∷ more) = (tag ∷ inner) ∷ more

-- the tags that begin inside the nearest element around, then those behind its end inside the next,
-- and so on
abbrev pub layers : List Item → List (List Tag)
layers [] = [] ∷ []
layers (i ∷ items) = elim i.mark [
  | start tag ↦ merged tag (layers items)
  | empty tag ↦ preceded tag (layers items)
  | close name after ↦ [] ∷ layers items
  | _ ↦ layers items
]
