-- The first fault of the marks of a text.
use Rattle.std.specs.Prelude.{◌≡◌, ◌≢◌, ◌⊎◌, ℕ, ◌+◌, true, false, List, [], ◌∷◌, ◌++◌, length}
use Rattle.std.specs.List.{flat_map}
use Rattle.sqd_marks.specs.Bytes.{is_blank, begins_name, Each}
use Rattle.sqd_marks.specs.Marks.{TextMark, close, doctype, cdata, IsWellFormedMark, mark_bytes}
use Rattle.sqd_scan.specs.Fronts.{IsCut, IsBadAt}
use Rattle.sqd_nesting.specs.Texts.{is_text, item_bytes, Item, Opened, Nest, IsOutsideRoot, IsQuiet, mark_len, Begins}
use Rattle.sqd_scan.specs.declared.fault.SqdFault.{SqdFault}
use Rattle.sqd_scan.specs.declared.fault.SqdFault.TheVariants.{BadMark, NotClosed, WrongClose, Doctype, Cdata}

-- the innermost element that isn't closed begins here
pub record HasInnermost (at : ℕ) (n : Nest) : Type 0 where
  pub innermost : Opened
  pub others : List Opened
  pub opened : n.opened ≡ others ++ innermost ∷ []
  pub place : innermost.at ≡ at

-- the innermost element that isn't closed has another name
pub record HasOther (name : List ℕ) (n : Nest) : Type 0 where
  pub innermost : Opened
  pub others : List Opened
  pub opened : n.opened ≡ others ++ innermost ∷ []
  pub named : innermost.name ≢ name

-- nothing is open, or the innermost element has another name
abbrev pub EndsOther : List ℕ → Nest → Type 0
EndsOther name n = IsOutsideRoot n ⊎ HasOther name n

-- an element's begin or end that may not stand here: the byte behind `<` (60) tells, as `/` (47)
pub record IsStray (n : Nest) (rest : List ℕ) : Type 0 where
  pub byte : ℕ
  pub more : List ℕ
  pub is : rest ≡ 60 ∷ byte ∷ more
  pub outside : IsOutsideRoot n
  pub tells : (byte ≡ 47) ⊎ ((n.rooted ≡ true) × (begins_name byte ≡ true))

-- the bytes begin with this mark
abbrev pub BeginsWithMark : TextMark → List ℕ → Type 0
BeginsWithMark m rest = (more : List ℕ) × (rest ≡ mark_bytes m ++ more)

-- a whole end mark, of another name than the innermost element that isn't closed
pub record IsWrongClose (n : Nest) (rest : List ℕ) : Type 0 where
  pub name : List ℕ
  pub after : List ℕ
  pub valid : IsWellFormedMark (close name after)
  pub begins : BeginsWithMark (close name after) rest
  pub other : HasOther name n

-- the text ends inside a mark that may stand here
pub record EndsInside (n : Nest) (rest : List ℕ) : Type 0 where
  pub some : rest ≢ []
  pub cut : IsCut rest
  pub calm : IsStray n rest → ⊥

-- the text ends, and the innermost element that isn't closed begins here
pub record EndsOpen (at : ℕ) (n : Nest) (rest : List ℕ) : Type 0 where
  pub none : rest ≡ []
  pub inside : HasInnermost at n

-- with the byte at `j` no mark that may stand here goes on
pub record IsBroken (j : ℕ) (n : Nest) (rest : List ℕ) : Type 0 where
  pub bad : IsBadAt rest j
  pub calm : IsStray n rest → ⊥

-- the fault of what is left from this place on, behind text that may stand, where this is open
abbrev pub IsFaultAt : ℕ → Nest → List ℕ → SqdFault → Type 0
IsFaultAt at n rest (Doctype k) = (k ≡ at) × BeginsWithMark doctype rest
IsFaultAt at n rest (Cdata k) = (k ≡ at) × BeginsWithMark cdata rest
IsFaultAt at n rest (WrongClose k) = (k ≡ at) × IsWrongClose n rest
IsFaultAt at n rest (NotClosed k) = ((k ≡ at) × EndsInside n rest) ⊎ EndsOpen k n rest
IsFaultAt at n rest (BadMark k) =
    ((k ≡ at) × IsStray n rest) ⊎ ((j : ℕ) × (k ≡ at + j) × IsBroken j n rest)
IsFaultAt at n rest _ = ⊥

-- text outside the root that isn't blank
pub record IsLoud (at : ℕ) (nest : Nest) (text : List ℕ) (fault : SqdFault) : Type 0 where
  pub outside : IsOutsideRoot nest
  pub blanks : List ℕ
  pub byte : ℕ
  pub more : List ℕ
  pub is : text ≡ blanks ++ byte ∷ more
  pub blank : Each is_blank blanks
  pub not_blank : is_blank byte ≡ false
  pub fault_is : fault ≡ BadMark (at + length blanks)

-- no text is left before these bytes
abbrev pub BeginsMark : List ℕ → Type 0
BeginsMark [] = Unit {0}
BeginsMark (b ∷ bs) = b ≡ 60

-- text that may stand, and then a fault
pub record IsBehind (at : ℕ) (nest : Nest) (between rest : List ℕ) (f : SqdFault) : Type 0 where
  pub quiet : IsQuiet nest between
  pub begins : BeginsMark rest
  pub found : IsFaultAt (at + length between) nest rest f

-- the fault of what is left from this place on, where this is open
pub record IsFaultIn (at : ℕ) (nest : Nest) (left : List ℕ) (fault : SqdFault) : Type 0 where
  pub between : List ℕ
  pub rest : List ℕ
  pub is : left ≡ between ++ rest
  pub text_only : Each is_text between
  pub found : IsLoud at nest between fault ⊎ IsBehind at nest between rest fault

-- the first fault of the text's marks: items that may stand, and then it
pub record IsFirstFault (text : List ℕ) (fault : SqdFault) : Type 0 where
  pub items : List Item
  pub nest : Nest
  pub left : List ℕ
  pub begins : Begins text items nest left
  pub found : IsFaultIn (mark_len text + length (flat_map item_bytes items)) nest left fault
