-- The kinds of bytes of a layout text, and bytes of one kind in a row.
use Rattle.std.specs.Prelude.{◌≡◌, ℕ, Bool, true, false, not, eqb, leb, ◌&&◌, ◌||◌, List, [], ◌∷◌, ◌++◌}
use Rattle.sqd_marks.specs.declared.span.ByteKind.{ByteKind}
use Rattle.sqd_marks.specs.declared.span.ByteKind.TheVariants.{Blank, InName, InValue}

-- a space, a tab, a carriage return or a line feed
abbrev pub is_blank : ℕ → Bool
is_blank b = eqb b 32 || eqb b 9 || eqb b 13 || eqb b 10

-- a letter, `_`, `:` or a byte of 128 and more
abbrev pub begins_name : ℕ → Bool
begins_name b = leb 65 b && leb b 90 || leb 97 b && leb b 122 || eqb b 95 || eqb b 58 || leb 128 b

-- one of these, a digit, `-` or `.`
abbrev pub is_in_name : ℕ → Bool
is_in_name b = begins_name b || leb 48 b && leb b 57 || eqb b 45 || eqb b 46

-- any byte but `<` (60) and the quote around the value
abbrev pub is_in_value : ℕ → ℕ → Bool
is_in_value quote b = not (eqb b quote) && not (eqb b 60)

-- whether a byte is of the kind
abbrev pub is_of : ByteKind → ℕ → Bool
is_of Blank = is_blank
is_of InName = is_in_name
is_of (InValue quote) = is_in_value quote

-- each byte passes
abbrev pub Each : (ℕ → Bool) → List ℕ → Type 0
Each p [] = Unit {0}
Each p (b ∷ bs) = (p b ≡ true) × Each p bs

-- no byte that passes comes first
abbrev pub Stops : (ℕ → Bool) → List ℕ → Type 0
Stops p [] = Unit {0}
Stops p (b ∷ bs) = p b ≡ false

-- the front has all the bytes that pass, up to the first that doesn't
pub record IsSpan (p : ℕ → Bool) (bytes front behind : List ℕ) : Type 0 where
  pub whole : bytes ≡ front ++ behind
  pub each : Each p front
  pub stops : Stops p behind

-- a name: a byte that begins one, then bytes of names
abbrev pub IsName : List ℕ → Type 0
IsName [] = ⊥
IsName (b ∷ bs) = (begins_name b ≡ true) × Each is_in_name bs
