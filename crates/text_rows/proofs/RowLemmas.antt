-- Rows of words: what is written is read back, and a text is told by its rows.
use Rattle.std.proofs.Common.{◌≡◌, ◌∙◌, sym, ap, refl, ℕ, ℤ, pos, negsuc, suc, ◌<◌, List, [], ◌∷◌, ◌++◌, map, Bool, true, false, not, ◌&&◌, eqb, arith, append_assoc}
use Rattle.std.proofs.lemmas.Bool.Decides.{nat_tests}
use Rattle.std.specs.List.{slice_split, join_with_byte, list_all, onto_first}
use Rattle.std.proofs.lemmas.List.Splits.{join_with_byte-slice_split, slice_split-cons_no, slice_split-cons_yes}
use Rattle.std.specs.Fmt.{signed_decimal}
use Rattle.std.specs.Str.Parse.{AllDigits}
use Rattle.std.specs.Char.{digit_value}
use Rattle.std.proofs.lemmas.Fmt.{decimal_is_IsNumeral, signed_decimal_injective}
use Rattle.text_rows.specs.Rows.{rows, words, lines, text_of, is_word, is_row, IsShort}
use Rattle.text_rows.proofs.Numbers.{short_mag}

pub and_parts : (a b : Bool) → (a && b) ≡ true → (a ≡ true) × (b ≡ true)
and_parts true b h = (refl, h)
and_parts false b h = absurd (cc h)

pub and_both : (a b : Bool) → a ≡ true → b ≡ true → (a && b) ≡ true
and_both a b h k = ap (λ x. x && b) h ∙ k

pub not_parts : (a : Bool) → not a ≡ true → a ≡ false
not_parts true h = absurd (cc h)
not_parts false h = refl

-- no byte of the list is the given one
abbrev pub lacks : ℕ → List ℕ → Bool
lacks c bytes = list_all (λ b. not (eqb b c)) bytes

-- a list without the byte is one part
pub no_split : (c : ℕ) (xs : List ℕ) → lacks c xs ≡ true → slice_split (λ b. eqb b c) xs ≡ xs ∷ []
no_split c [] h = refl
no_split c (x ∷ xs) h =
    let both = and_parts (not (eqb x c)) (lacks c xs) h in
    slice_split-cons_no (λ b. eqb b c) x xs (not_parts _ both.0) ∙ ap (onto_first x) (no_split c xs both.1)

-- the first part is in front of the first such byte
pub split_front : (c : ℕ) (xs ys : List ℕ) → eqb c c ≡ true → lacks c xs ≡ true → slice_split (λ b. eqb b c) (xs ++ c ∷ ys) ≡ xs ∷ slice_split (λ b. eqb b c) ys
split_front c [] ys same h = slice_split-cons_yes (λ b. eqb b c) c ys same
split_front c (x ∷ xs) ys same h =
    let both = and_parts (not (eqb x c)) (lacks c xs) h in
    slice_split-cons_no (λ b. eqb b c) x (xs ++ c ∷ ys) (not_parts _ both.0) ∙ ap (onto_first x) (split_front c xs ys same both.1)

-- a word holds no space, and no line feed
pub no_space : (word : List ℕ) → is_word word ≡ true → lacks 32 word ≡ true
no_space [] h = refl
no_space (b ∷ bs) h =
    let both = and_parts (not (eqb b 32) && not (eqb b 10)) (is_word bs) h in
    and_both _ _ (and_parts (not (eqb b 32)) _ both.0).0 (no_space bs both.1)

pub no_feed : (word : List ℕ) → is_word word ≡ true → lacks 10 word ≡ true
no_feed [] h = refl
no_feed (b ∷ bs) h =
    let both = and_parts (not (eqb b 32) && not (eqb b 10)) (is_word bs) h in
    and_both _ _ (and_parts (not (eqb b 32)) _ both.0).1 (no_feed bs both.1)

pub lacks_append : (c : ℕ) (xs ys : List ℕ) → lacks c xs ≡ true → lacks c ys ≡ true → lacks c (xs ++ ys) ≡ true
lacks_append c [] ys h k = k
lacks_append c (x ∷ xs) ys h k =
    let both = and_parts (not (eqb x c)) (lacks c xs) h in
    and_both _ _ both.0 (lacks_append c xs ys both.1 k)

-- the words of a row, joined by spaces, are cut to the row again
pub words_back : (row : List (List ℕ)) → is_row row ≡ true → words (join_with_byte 32 row) ≡ row
words_back [] h = absurd (cc h)
words_back (w ∷ []) h =
    let both = and_parts (is_word w) true h in
    no_split 32 w (no_space w both.0)
words_back (w ∷ v ∷ row) h =
    let both = and_parts (is_word w) (list_all is_word (v ∷ row)) h in
    split_front 32 w (join_with_byte 32 (v ∷ row)) refl (no_space w both.0) ∙ ap (λ r. w ∷ r) (words_back (v ∷ row) both.1)

pub row_feed : (row : List (List ℕ)) → is_row row ≡ true → lacks 10 (join_with_byte 32 row) ≡ true
row_feed [] h = refl
row_feed (w ∷ []) h =
    let both = and_parts (is_word w) true h in
    no_feed w both.0
row_feed (w ∷ v ∷ row) h =
    let both = and_parts (is_word w) (list_all is_word (v ∷ row)) h in
    lacks_append 10 w (32 ∷ join_with_byte 32 (v ∷ row)) (no_feed w both.0) (row_feed (v ∷ row) both.1)

-- what is written in front is read back
pub rows_front : (ls : List (List (List ℕ))) (rest : List ℕ) → list_all is_row ls ≡ true → rows (text_of ls ++ rest) ≡ ls ++ rows rest
rows_front [] rest h = refl
rows_front (row ∷ more) rest h =
    let both = and_parts (is_row row) (list_all is_row more) h in
    let cut = ap (map words) (ap lines (append_assoc (join_with_byte 32 row) (10 ∷ text_of more) rest) ∙ split_front 10 (join_with_byte 32 row) (text_of more ++ rest) refl (row_feed row both.0)) in
    cut ∙ ap (λ w. w ∷ rows (text_of more ++ rest)) (words_back row both.0) ∙ ap (λ r. row ∷ r) (rows_front more rest both.1)

pub append_nil : (xs : List ℕ) → xs ++ [] ≡ xs
append_nil [] = refl
append_nil (x ∷ xs) = ap (λ r. x ∷ r) (append_nil xs)

pub rows_back : (ls : List (List (List ℕ))) → list_all is_row ls ≡ true → rows (text_of ls) ≡ ls ++ words [] ∷ []
rows_back ls h = ap rows (sym (append_nil (text_of ls))) ∙ rows_front ls [] h

-- the lines, and the text, of rows
lines_joined : (ls : List (List ℕ)) → map (join_with_byte 32) (map words ls) ≡ ls
lines_joined [] = refl
lines_joined (l ∷ ls) = ap (λ x. x ∷ map (join_with_byte 32) (map words ls)) (join_with_byte-slice_split 32 l) ∙ ap (λ r. l ∷ r) (lines_joined ls)

text_joined : (a : List ℕ) → join_with_byte 10 (map (join_with_byte 32) (rows a)) ≡ a
text_joined a = ap (join_with_byte 10) (lines_joined (lines a)) ∙ join_with_byte-slice_split 10 a

pub one_text : (a b : List ℕ) → rows a ≡ rows b → a ≡ b
one_text a b e = sym (text_joined a) ∙ ap (λ r. join_with_byte 10 (map (join_with_byte 32) r)) e ∙ text_joined b

-- the line of a row
pub line_joined : (line : List ℕ) (row : List (List ℕ)) → words line ≡ row → line ≡ join_with_byte 32 row
line_joined line row e = sym (join_with_byte-slice_split 32 line) ∙ ap (join_with_byte 32) e

-- digits are no space and no line feed
digit_plain : (b : ℕ) → digit_value b < 10 → (not (eqb b 32) && not (eqb b 10)) ≡ true
digit_plain b h = grind (arith, nat_tests)

digits_plain : (ds : List ℕ) → AllDigits 10 ds → is_word ds ≡ true
digits_plain [] h = refl
digits_plain (d ∷ ds) h = and_both _ _ (digit_plain d h.0) (digits_plain ds h.1)

pub number_word : (z : ℤ) → IsShort z → is_word (signed_decimal z) ≡ true
number_word (pos n) h = digits_plain _ (decimal_is_IsNumeral n (omega (arith, short_mag (pos n) h))).0.1
number_word (negsuc n) h = digits_plain _ (decimal_is_IsNumeral (suc n) (omega (arith, short_mag (negsuc n) h))).0.1

pub same_number : (y z : ℤ) → IsShort y → IsShort z → signed_decimal y ≡ signed_decimal z → y ≡ z
same_number y z h k e = signed_decimal_injective y z (short_mag y h) (short_mag z k) e
