-- the elements of a text, with what stands around them and inside
use Rattle.std.specs.Prelude.{ℕ, zero, suc, ◌+◌, List, [], ◌∷◌, length}
use Rattle.sqd_marks.specs.Marks.{start, empty, close, Tag}
use Rattle.sqd_nesting.specs.Texts.{Item, item_bytes, mark_len}

-- an element: the place of its `<`, the names of the elements around it, the nearest first, its own
-- tag, and the tags of the elements inside it, in the order of the text
pub record Element : Type 0 where
  pub at : ℕ
  pub around : List (List ℕ)
  pub tag : Tag
  pub inside : List Tag

-- the tags that begin before the end mark of an element, with so many others open inside it
abbrev pub tags_before_end : ℕ → List Item → List Tag
tags_before_end depth [] = []
tags_before_end depth (i ∷ items) = elim i.mark [
  | start tag ↦ tag ∷ tags_before_end (suc depth) items
  | empty tag ↦ tag ∷ tags_before_end depth items
  | close name after ↦ elim depth [ zero ↦ [] | suc less ↦ tags_before_end less items ]
  | _ ↦ tags_before_end depth items
]

-- the names around, without the nearest
abbrev pub without_nearest : List (List ℕ) → List (List ℕ)
without_nearest [] = []
without_nearest (name ∷ names) = names

-- the element of these
abbrev pub element_at : ℕ → List (List ℕ) → Tag → List Tag → Element
element_at at around tag inside = record { at = at; around = around; tag = tag; inside = inside }

-- the elements that begin among items, the first of which begins at this place, with these names
-- around it
abbrev pub elements : ℕ → List (List ℕ) → List Item → List Element
elements at around [] = []
elements at around (i ∷ items) = elim i.mark [
  | start tag ↦
      element_at (at + length i.text) around tag (tags_before_end 0 items)
      ∷ elements (at + length (item_bytes i)) (tag.name ∷ around) items
  | empty tag ↦
      element_at (at + length i.text) around tag []
      ∷ elements (at + length (item_bytes i)) around items
  | close name after ↦ elements (at + length (item_bytes i)) (without_nearest around) items
  | _ ↦ elements (at + length (item_bytes i)) around items
]

-- the elements of a text of these items, in the order of their `<`
abbrev pub elements_of : List ℕ → List Item → List Element
elements_of text items = elements (mark_len text) [] items
