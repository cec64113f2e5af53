-- The marks of a layout text, each with all that it is written with.
use Rattle.std.specs.Prelude.{◌≡◌, ◌≢◌, ◌⊎◌, ℕ, false, nat_eq, List, [], ◌∷◌, ◌++◌, codes}
use Rattle.std.specs.List.{flat_map, starts_with, AllByRecursion}
use Rattle.sqd_marks.specs.Bytes.{is_blank, is_in_value, Each, IsName}
use Rattle.sqd_marks.specs.declared.kind.Kind.{Kind}
use Rattle.sqd_marks.specs.declared.kind.Kind.TheVariants.{Start, Empty, End, Comment, Declaration, Doctype, Cdata}

-- an attribute: blanks, its name, the blanks around `=`, the quote and the value
pub record Attribute : Type 0 where
  pub before : List ℕ
  pub name : List ℕ
  pub left : List ℕ
  pub right : List ℕ
  pub quote : ℕ
  pub value : List ℕ

-- what a start mark and an empty mark have in common: a name, attributes and the blanks after them
pub record Tag : Type 0 where
  pub name : List ℕ
  pub attributes : List Attribute
  pub after : List ℕ

-- a mark that begins with `<`; the last two may stand in no text
pub data TextMark : Type 0 where
  start : Tag → TextMark
  empty : Tag → TextMark
  close : List ℕ → List ℕ → TextMark
  comment : List ℕ → TextMark
  declaration : List ℕ → TextMark
  doctype : TextMark
  cdata : TextMark

-- the bytes of an attribute
abbrev pub attribute_bytes : Attribute → List ℕ
attribute_bytes a =
    a.before ++ (a.name ++ (a.left ++ (61 ∷ (a.right ++ (a.quote ∷ (a.value ++ a.quote ∷ []))))))

-- the bytes of a tag
abbrev pub tag_bytes : Tag → List ℕ
tag_bytes t = t.name ++ (flat_map attribute_bytes t.attributes ++ t.after)

-- the bytes of a mark
abbrev pub mark_bytes : TextMark → List ℕ
mark_bytes (start t) = codes "<" ++ (tag_bytes t ++ codes ">")
mark_bytes (empty t) = codes "<" ++ (tag_bytes t ++ codes "/>")
mark_bytes (close name after) = codes "</" ++ (name ++ (after ++ codes ">"))
mark_bytes (comment inner) = codes "<!--" ++ (inner ++ codes "-->")
mark_bytes (declaration inner) = codes "<?" ++ (inner ++ codes "?>")
mark_bytes doctype = codes "<!DOCTYPE"
mark_bytes cdata = codes "<![CDATA["

-- an attribute as it may be
pub record IsAttribute (a : Attribute) : Type 0 where
  pub apart : a.before ≢ []
  pub before : Each is_blank a.before
  pub name : IsName a.name
  pub left : Each is_blank a.left
  pub right : Each is_blank a.right
  pub quote : (a.quote ≡ 34) ⊎ (a.quote ≡ 39)
  pub value : Each (is_in_value a.quote) a.value

-- a tag as it may be
pub record IsTag (t : Tag) : Type 0 where
  pub name : IsName t.name
  pub attributes : AllByRecursion IsAttribute t.attributes
  pub after : Each is_blank t.after

-- the stop stands nowhere in the bytes
abbrev pub IsWithout : List ℕ → List ℕ → Type 0
IsWithout stop [] = Unit {0}
IsWithout stop (b ∷ bs) = (starts_with nat_eq (b ∷ bs) stop ≡ false) × IsWithout stop bs

-- a mark as it may be
abbrev pub IsWellFormedMark : TextMark → Type 0
IsWellFormedMark (start t) = IsTag t
IsWellFormedMark (empty t) = IsTag t
IsWellFormedMark (close name after) = IsName name × Each is_blank after
IsWellFormedMark (comment inner) = IsWithout (codes "-->") inner
IsWellFormedMark (declaration inner) = IsWithout (codes "?>") inner
IsWellFormedMark doctype = Unit {0}
IsWellFormedMark cdata = Unit {0}

-- which form a mark has
abbrev pub kind_of_mark : TextMark → Kind
kind_of_mark (start t) = Start
kind_of_mark (empty t) = Empty
kind_of_mark (close name after) = End
kind_of_mark (comment inner) = Comment
kind_of_mark (declaration inner) = Declaration
kind_of_mark doctype = Doctype
kind_of_mark cdata = Cdata
