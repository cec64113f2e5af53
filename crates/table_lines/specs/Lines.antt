-- the lines of a table text, and their words
use Rattle.std.specs.Prelude.{◌≡◌, ℕ, List, [], ◌∷◌, codes, Option, None, Some}
use Rattle.std.specs.Fmt.{signed_decimal}
use Rattle.text_rows.specs.Rows.{IsShort}
use Rattle.table_lines.specs.declared.line.TableLine.{TableLine}
use Rattle.table_lines.specs.declared.line.TableLine.TheVariants.{FirstVersion, SecondVersion, Sites, Fixed, Base, Levels, Charge, Class, Pair, Near, End}

-- the words of a line
abbrev pub table_line_words : TableLine → List (List ℕ)
table_line_words FirstVersion = codes "sidb-table" ∷ codes "1" ∷ []
table_line_words SecondVersion = codes "sidb-table" ∷ codes "2" ∷ []
table_line_words (Sites n) = codes "sites" ∷ signed_decimal n ∷ []
table_line_words (Fixed f) = codes "fixed" ∷ signed_decimal f ∷ []
table_line_words (Base b) = codes "base" ∷ signed_decimal b ∷ []
table_line_words (Levels m p) = codes "mu" ∷ signed_decimal m ∷ signed_decimal p ∷ []
table_line_words (Charge q) = codes "charge" ∷ signed_decimal q ∷ []
table_line_words (Class lo hi) = codes "class" ∷ signed_decimal lo ∷ signed_decimal hi ∷ []
table_line_words (Pair i j c) = codes "pair" ∷ signed_decimal i ∷ signed_decimal j
    ∷ signed_decimal c ∷ []
table_line_words (Near i a c) = codes "near" ∷ signed_decimal i ∷ signed_decimal a
    ∷ signed_decimal c ∷ []
table_line_words End = codes "end" ∷ []

-- its numbers have at most seventeen digits
abbrev pub IsShortTableLine : TableLine → Type 0
IsShortTableLine FirstVersion = Unit {0}
IsShortTableLine SecondVersion = Unit {0}
IsShortTableLine (Sites n) = IsShort n
IsShortTableLine (Fixed f) = IsShort f
IsShortTableLine (Base b) = IsShort b
IsShortTableLine (Levels m p) = IsShort m × IsShort p
IsShortTableLine (Charge q) = IsShort q
IsShortTableLine (Class lo hi) = IsShort lo × IsShort hi
IsShortTableLine (Pair i j c) = IsShort i × IsShort j × IsShort c
IsShortTableLine (Near i a c) = IsShort i × IsShort a × IsShort c
IsShortTableLine End = Unit {0}

-- the row of words is this line, or no line
abbrev pub IsLine : List (List ℕ) → Option TableLine → Type 0
IsLine row (Some l) = (row ≡ table_line_words l) × IsShortTableLine l
IsLine row None = (l : TableLine) → IsShortTableLine l → row ≡ table_line_words l → ⊥
