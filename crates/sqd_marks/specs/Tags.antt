-- The parts of a tag: what the bytes of its mark say.
use Rattle.std.specs.Prelude.{◌≡◌, ◌⊎◌, ℕ, cond, List, [], ◌∷◌, ◌++◌, codes, Option, None, Some}
use Rattle.std.specs.List.{flat_map, AllByRecursion}
use Rattle.std.specs.Str.{bytes_eq}
use Rattle.sqd_marks.specs.Bytes.{is_blank, Each}
use Rattle.sqd_marks.specs.Marks.{Attribute, IsAttribute, Tag, IsTag, start, empty, mark_bytes, attribute_bytes}
use Rattle.sqd_marks.specs.declared.tag_value.FirstAttribute.{FirstAttribute}

-- the bytes are a start mark or an empty mark with this tag
pub record IsTagOf (t : Tag) (bytes : List ℕ) : Type 0 where
  pub valid : IsTag t
  pub spelled : (mark_bytes (start t) ≡ bytes) ⊎ (mark_bytes (empty t) ≡ bytes)

-- the value of the first attribute of this name
abbrev pub attribute_value : List ℕ → List Attribute → Option (List ℕ)
attribute_value name [] = None
attribute_value name (a ∷ attributes) =
    cond (bytes_eq a.name name) (Some a.value) (attribute_value name attributes)

-- attributes, then blanks and what closes a tag
pub record IsTail (attributes : List Attribute) (bytes : List ℕ) : Type 0 where
  pub after : List ℕ
  pub finish : List ℕ
  pub valid : AllByRecursion IsAttribute attributes
  pub blank : Each is_blank after
  pub closes : (finish ≡ codes ">") ⊎ (finish ≡ codes "/>")
  pub is : bytes ≡ flat_map attribute_bytes attributes ++ (after ++ finish)

-- the part is the first of these attributes, and then the tail of the others
pub record IsFirstOf (attributes : List Attribute) (p : FirstAttribute) : Type 0 where
  pub first : Attribute
  pub others : List Attribute
  pub are : attributes ≡ first ∷ others
  pub name : p.name.now ≡ first.name
  pub value : p.value.now ≡ first.value
  pub behind : IsTail others p.behind.now

-- the first of these attributes, or that there is none
abbrev pub IsFirstOrNone : List Attribute → Option FirstAttribute → Type 0
IsFirstOrNone attributes None = attributes ≡ []
IsFirstOrNone attributes (Some p) = IsFirstOf attributes p
