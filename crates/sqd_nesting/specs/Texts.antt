-- A text as marks with what stands between them, and how they nest.
use Rattle.std.specs.Prelude.{◌≡◌, ℕ, ◌+◌, Bool, true, false, not, eqb, nat_eq, cond, List, [], ◌∷◌, ◌++◌, length, drop}
use Rattle.std.specs.List.{flat_map, starts_with, AllByRecursion}
use Rattle.sqd_marks.specs.Bytes.{is_blank, Each}
use Rattle.sqd_marks.specs.Marks.{TextMark, start, empty, close, comment, declaration, doctype, cdata, IsWellFormedMark, mark_bytes}

-- a mark, and the text before it
pub record Item : Type 0 where
  pub text : List ℕ
  pub mark : TextMark

-- a byte of text between marks: any but `<`
abbrev pub is_text : ℕ → Bool
is_text b = not (eqb b 60)

-- the bytes of an item
abbrev pub item_bytes : Item → List ℕ
item_bytes i = i.text ++ mark_bytes i.mark

-- an item as it may be
pub record IsItem (i : Item) : Type 0 where
  pub text : Each is_text i.text
  pub mark : IsWellFormedMark i.mark

-- an element that isn't closed: the place of its `<`, and its name
pub record Opened : Type 0 where
  pub at : ℕ
  pub name : List ℕ

-- the elements that aren't closed, the innermost last, and whether the root has begun
pub record Nest : Type 0 where
  pub opened : List Opened
  pub rooted : Bool

-- nothing is open
abbrev pub IsOutsideRoot : Nest → Type 0
IsOutsideRoot n = n.opened ≡ []

-- an element may begin: there is one root
abbrev pub MayBegin : Nest → Type 0
MayBegin n = IsOutsideRoot n → n.rooted ≡ false

-- an element of this name has begun at this place
pub record HasBegun (at : ℕ) (name : List ℕ) (old new : Nest) : Type 0 where
  pub opened : new.opened ≡ old.opened ++ record { at = at; name = name } ∷ []
  pub rooted : new.rooted ≡ true

-- an element has begun and ended at once
pub record HasPassedElement (old new : Nest) : Type 0 where
  pub opened : new.opened ≡ old.opened
  pub rooted : new.rooted ≡ true

-- an element of this name has ended, the innermost
pub record HasEnded (name : List ℕ) (old new : Nest) : Type 0 where
  pub innermost : Opened
  pub opened : old.opened ≡ new.opened ++ innermost ∷ []
  pub named : innermost.name ≡ name
  pub rooted : new.rooted ≡ old.rooted

-- what is open after a mark whose `<` stands at this place
abbrev pub Turns : ℕ → TextMark → Nest → Nest → Type 0
Turns at (start t) old new = MayBegin old × HasBegun at t.name old new
Turns at (empty t) old new = MayBegin old × HasPassedElement old new
Turns at (close name after) old new = HasEnded name old new
Turns at (comment inner) old new = new ≡ old
Turns at (declaration inner) old new = new ≡ old
Turns at doctype old new = ⊥
Turns at cdata old new = ⊥

-- outside the root there are only blanks
abbrev pub IsQuiet : Nest → List ℕ → Type 0
IsQuiet n text = IsOutsideRoot n → Each is_blank text

-- what is open after an item that begins at this place
pub record PassesItem (at : ℕ) (i : Item) (old new : Nest) : Type 0 where
  pub quiet : IsQuiet old i.text
  pub turns : Turns (at + length i.text) i.mark old new

-- what is open after these items, the first of which begins at this place
abbrev pub Nested : ℕ → Nest → List Item → Nest → Type 0
Nested at old [] new = old ≡ new
Nested at old (i ∷ items) new =
    (next : Nest) × PassesItem at i old next × Nested (at + length (item_bytes i)) next items new

-- before the root
abbrev pub at_first : Nest
at_first = record { opened = []; rooted = false }

-- how many bytes the byte order mark EF BB BF takes, where the text begins with it
abbrev pub mark_len : List ℕ → ℕ
mark_len text = cond (starts_with nat_eq text (239 ∷ 187 ∷ 191 ∷ [])) 3 0

-- the text begins with these items, after which this is open and these bytes are left
pub record Begins (text : List ℕ) (items : List Item) (nest : Nest) (rest : List ℕ) : Type 0 where
  pub is : drop (mark_len text) text ≡ flat_map item_bytes items ++ rest
  pub valid : AllByRecursion IsItem items
  pub nested : Nested (mark_len text) at_first items nest

-- the text is these items and then blanks, with nothing open
pub record IsWhole (text : List ℕ) (items : List Item) : Type 0 where
  pub nest : Nest
  pub rest : List ℕ
  pub begins : Begins text items nest rest
  pub closed : IsOutsideRoot nest
  pub blank : Each is_blank rest
