-- What bytes begin with: a mark, a part of one, or a part and a byte that continues none.
use Rattle.std.specs.Prelude.{◌≡◌, ℕ, ◌+◌, List, [], ◌∷◌, ◌++◌, length}
use Rattle.sqd_marks.specs.Marks.{TextMark, IsWellFormedMark, mark_bytes, kind_of_mark}
use Rattle.sqd_marks.specs.declared.kind.Kind.{Kind}
use Rattle.sqd_scan.specs.declared.fault.SqdFault.{SqdFault}
use Rattle.sqd_scan.specs.declared.fault.SqdFault.TheVariants.{BadMark, NotClosed}

-- the bytes are one mark, of this form
pub record IsOf (kind : Kind) (bytes : List ℕ) : Type 0 where
  pub mark : TextMark
  pub valid : IsWellFormedMark mark
  pub form : kind_of_mark mark ≡ kind
  pub spelled : mark_bytes mark ≡ bytes

-- the bytes begin with a mark
pub record HasMark (bytes : List ℕ) : Type 0 where
  pub mark : TextMark
  pub valid : IsWellFormedMark mark
  pub more : List ℕ
  pub is : bytes ≡ mark_bytes mark ++ more

-- bytes that some mark begins with
pub record IsFront (bytes : List ℕ) : Type 0 where
  pub mark : TextMark
  pub valid : IsWellFormedMark mark
  pub more : List ℕ
  pub spelled : mark_bytes mark ≡ bytes ++ more

-- the bytes end inside a mark
pub record IsCut (bytes : List ℕ) : Type 0 where
  pub mark : TextMark
  pub valid : IsWellFormedMark mark
  pub next : ℕ
  pub more : List ℕ
  pub spelled : mark_bytes mark ≡ bytes ++ next ∷ more

-- the byte at `at` is the first that continues no mark
pub record IsBadAt (bytes : List ℕ) (at : ℕ) : Type 0 where
  pub front : List ℕ
  pub bad : ℕ
  pub more : List ℕ
  pub is : bytes ≡ front ++ bad ∷ more
  pub place : length front ≡ at
  pub good : IsCut front
  pub wrong : IsFront (front ++ bad ∷ []) → ⊥

-- why the bytes from this place of a text on begin with no mark
abbrev pub IsFaultOf : ℕ → List ℕ → SqdFault → Type 0
IsFaultOf at bytes (NotClosed k) = (k ≡ at) × IsCut bytes
IsFaultOf at bytes (BadMark k) = (j : ℕ) × (k ≡ at + j) × IsBadAt bytes j
IsFaultOf at bytes _ = ⊥
