-- a text as rows of words, and the whole numbers in it
use Rattle.std.specs.Prelude.{◌≡◌, ℕ, ℤ, ◌<◌, Bool, false, not, ◌&&◌, List, [], ◌∷◌, ◌++◌, map, Option, None, Some, eqb, unsigned_abs, codes}
use Rattle.std.specs.List.{slice_split, join_with_byte, list_all}
use Rattle.std.specs.Fmt.{signed_decimal}

-- what stands between the line feeds; the last part is behind the last of them
abbrev pub lines : List ℕ → List (List ℕ)
lines text = slice_split (λ b. eqb b 10) text

-- what stands between the spaces of a line
abbrev pub words : List ℕ → List (List ℕ)
words line = slice_split (λ b. eqb b 32) line

-- the words of each line
abbrev pub rows : List ℕ → List (List (List ℕ))
rows text = map words (lines text)

-- the bytes of these rows: a space between two words, and a line feed behind each row
abbrev pub text_of : List (List (List ℕ)) → List ℕ
text_of [] = []
text_of (row ∷ more) = join_with_byte 32 row ++ 10 ∷ text_of more

-- the last row of a text of the program
abbrev pub end_rows : List (List (List ℕ))
end_rows = (codes "end" ∷ []) ∷ []

-- whether a word holds no space and no line feed
abbrev pub is_word : List ℕ → Bool
is_word word = list_all (λ b. not (eqb b 32) && not (eqb b 10)) word

-- whether a row has one word or more
abbrev pub is_row : List (List ℕ) → Bool
is_row [] = false
is_row (word ∷ more) = is_word word && list_all is_word more

-- a number of at most seventeen digits
abbrev pub IsShort : ℤ → Type 0
IsShort z = unsigned_abs z < 100000000000000000

-- the word is this number, or no number
abbrev pub IsNumber : List ℕ → Option ℤ → Type 0
IsNumber word (Some z) = (word ≡ signed_decimal z) × IsShort z
IsNumber word None = (z : ℤ) → IsShort z → word ≡ signed_decimal z → ⊥
