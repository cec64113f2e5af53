-- What the reader has at hand, as the text's own items and what is open in them.
use Rattle.std.specs.Prelude.{◌≡◌, ℕ, ◌+◌, ◌≤◌, ◌<◌, ◌⊎◌, ◌++◌, List, [], ◌∷◌, map, length, take, drop, Option, None, Some}
use Rattle.sqd_marks.specs.Bytes.{is_blank, Each}
use Rattle.sqd_marks.specs.Marks.{kind_of_mark, mark_bytes}
use Rattle.sqd_scan.specs.Fronts.{IsOf}
use Rattle.sqd_nesting.specs.Texts.{Nest, IsOutsideRoot, Opened, Item, IsItem, item_bytes, is_text, IsQuiet, PassesItem, mark_len, IsWhole}
use Rattle.sqd_nesting.specs.Faults.{IsStray, IsFaultIn}
use Rattle.sqd_nesting.specs.declared.ahead.Ahead.{Ahead}
use Rattle.sqd_nesting.specs.declared.read.PlacedMark.{PlacedMark}
use Rattle.sqd_nesting.specs.declared.read.Passed.{Passed}
use Rattle.sqd_scan.specs.declared.fault.SqdFault.{SqdFault}
use Rattle.sqd_scan.specs.declared.fault.SqdFault.TheVariants.{Memory}
use Rattle.sqd_nesting.specs.declared.nest.Open.{Open}
use Rattle.sqd_nesting.specs.declared.nest.Nesting.{Nesting}

-- an open element, without where its name lies in memory
abbrev pub opened_of : Open → Opened
opened_of o = record { at = o.at; name = o.name.now }

-- what is open
abbrev pub nest_of : Nesting → Nest
nest_of n = record { opened = map opened_of n.opened.items; rooted = n.rooted }

-- the found mark is that of an item that begins at this place
pub record Shows (at : ℕ) (f : PlacedMark) (i : Item) : Type 0 where
  pub place : f.at ≡ at + length i.text
  pub form : f.kind ≡ kind_of_mark i.mark
  pub bytes : f.bytes.now ≡ mark_bytes i.mark

-- the found marks are those of the items, one for one, the first of which begins at this place
abbrev pub ShowAll : ℕ → List PlacedMark → List Item → Type 0
ShowAll at [] [] = Unit {0}
ShowAll at (f ∷ fs) (i ∷ items) = Shows at f i × ShowAll (at + length (item_bytes i)) fs items
ShowAll at _ _ = ⊥

-- the text is whole, and these are its marks
pub record IsRead (text : List ℕ) (found : List PlacedMark) : Type 0 where
  pub items : List Item
  pub whole : IsWhole text items
  pub shown : ShowAll (mark_len text) found items

-- a mark ahead that isn't stray, behind text that may stand
pub record IsMarkAhead (n : Nest) (left : List ℕ) (a : Ahead) : Type 0 where
  pub within : a.gap + a.whole.len ≤ length left
  pub some : 0 < a.whole.len
  pub text : Each is_text (take a.gap left)
  pub quiet : IsQuiet n (take a.gap left)
  pub mark : IsOf a.whole.kind (take a.whole.len (drop a.gap left))
  pub calm : IsStray n (drop a.gap left) → ⊥

-- text to the end that may stand
pub record IsLastText (n : Nest) (left : List ℕ) : Type 0 where
  pub text : Each is_text left
  pub quiet : IsQuiet n left

-- what is ahead: text to the end, or text and then a mark
abbrev pub IsAhead : Nest → List ℕ → Option Ahead → Type 0
IsAhead n left None = IsLastText n left
IsAhead n left (Some a) = IsMarkAhead n left a

-- an item has been passed, and its mark found
pub record IsPassed (at : ℕ) (old : Nest) (left : List ℕ) (p : Passed) : Type 0 where
  pub item : Item
  pub valid : IsItem item
  pub is : left ≡ item_bytes item ++ p.behind.left.now
  pub passes : PassesItem at item old (nest_of p.behind.nesting)
  pub place : p.behind.at ≡ at + length (item_bytes item)
  pub shown : Shows at p.found item

-- the text ends here: only blanks are left, and nothing is open
pub record IsEnd (n : Nest) (left : List ℕ) : Type 0 where
  pub outside : IsOutsideRoot n
  pub blank : Each is_blank left

-- an item, or the end of a whole text
abbrev pub IsItemOrEnd : ℕ → Nest → List ℕ → Option Passed → Type 0
IsItemOrEnd at n left None = IsEnd n left
IsItemOrEnd at n left (Some p) = IsPassed at n left p

-- the fault of what is left, or want of memory
abbrev pub IsFaultOrMemory : ℕ → Nest → List ℕ → SqdFault → Type 0
IsFaultOrMemory at n left fault = (fault ≡ Memory) ⊎ IsFaultIn at n left fault
