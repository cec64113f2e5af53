-- Texts and their rows, worked by hand, and words that are numbers, or none.
use Rattle.std.proofs.Common.{◌≡◌, refl, ap, ℕ, pos, negsuc, List, [], ◌∷◌, ◌++◌, get_or, codes, true, None, Some, arith}
use Rattle.std.specs.Fmt.{digits}
use Rattle.text_rows.specs.Rows.{rows, words, text_of, is_row, IsNumber}
use Rattle.text_rows.proofs.Readings.{neither}

-- a row is cut at each space, and a text at each line feed
two_rows : rows (codes "sites 2" ++ 10 ∷ codes "end") ≡ (codes "sites" ∷ codes "2" ∷ []) ∷ (codes "end" ∷ []) ∷ []
two_rows = refl

two_spaces : words (codes "a  b") ≡ codes "a" ∷ [] ∷ codes "b" ∷ []
two_spaces = refl

-- behind the last line feed stands an empty row, and so in an empty text
last_row : rows (codes "end" ++ 10 ∷ []) ≡ (codes "end" ∷ []) ∷ ([] ∷ []) ∷ []
last_row = refl

empty_text : rows [] ≡ ([] ∷ []) ∷ []
empty_text = refl

written : text_of ((codes "mu" ∷ codes "-2" ∷ codes "-5" ∷ []) ∷ (codes "end" ∷ []) ∷ []) ≡ codes "mu -2 -5" ++ 10 ∷ codes "end" ++ 10 ∷ []
written = refl

a_row : is_row (codes "mu" ∷ codes "-2" ∷ [] ∷ []) ≡ true
a_row = refl

-- words that are numbers
zero_is : IsNumber (codes "0") (Some (pos 0))
unfolding digits
zero_is = (refl, omega arith)

minus_twenty_is : IsNumber (codes "-20") (Some (negsuc 19))
unfolding digits
minus_twenty_is = (refl, omega arith)

greatest_is : IsNumber (codes "99999999999999999") (Some (pos 99999999999999999))
unfolding digits
greatest_is = (refl, omega arith)

-- the first byte of a word
abbrev pub first_of : List ℕ → ℕ
first_of word = get_or word 0 0

-- and words that are none
no_word : IsNumber [] None
unfolding digits
no_word = neither [] (λ short e. cc e) (λ short e. cc e)

leading_zero : IsNumber (codes "07") None
unfolding digits
leading_zero = neither (codes "07") (λ short e. let first : 48 ≡ 55 = ap first_of e in omega (arith, first)) (λ short e. let first : 48 ≡ 45 = ap first_of e in omega (arith, first))

minus_zero : IsNumber (codes "-0") None
unfolding digits
minus_zero = neither (codes "-0") (λ short e. cc e) (λ short e. cc e)

eighteen_digits : IsNumber (codes "100000000000000000") None
unfolding digits
eighteen_digits = neither (codes "100000000000000000") (λ short e. absurd (omega (arith, short))) (λ short e. cc e)
