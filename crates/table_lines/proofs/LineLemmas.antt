-- Lines and their words: a row is one line at most, and the words of a line are words.
use Rattle.std.proofs.Common.{◌≡◌, ap, refl, ℕ, ℤ, ◌+◌, ◌*◌, eqb, List, [], ◌∷◌, ◌++◌, map, true, false, get_or, w64}
use Rattle.std.proofs.lemmas.Int.{to_z-of_z}
use Rattle.std.proofs.lemmas.Bool.Decides.{Decides-eqb}
use Rattle.std.proofs.Common.{to_z, of_z}
use Rattle.std.specs.Fmt.{signed_decimal}
use Rattle.std.specs.List.{list_all}
use Rattle.text_rows.specs.Rows.{IsShort, is_row, is_word}
use Rattle.text_rows.proofs.Numbers.{short_fits}
use Rattle.text_rows.proofs.RowLemmas.{number_word, same_number, and_both}
use Rattle.table_lines.specs.declared.line.TableLine.{TableLine}
use Rattle.table_lines.specs.declared.line.TableLine.TheVariants.{FirstVersion, SecondVersion, Sites, Fixed, Base, Levels, Charge, Class, Pair, Near, End}
use Rattle.table_lines.specs.Lines.{table_line_words, IsShortTableLine}
use Rattle.table_lines.specs.FineLines.{AreFineTableLines}

-- a short number is an i64
pub fit : (z : ℤ) → IsShort z → to_z w64 (of_z w64 z) ≡ z
fit z h = to_z-of_z w64 z (short_fits z h)

-- two numbers that a test tells apart
differ : (m n : ℕ) → m ≡ n → eqb m n ≡ false → ⊥
differ m n e f = absurd (cc (f, (Decides-eqb m n).1 e))

-- the first three letters of a row's first word, and the first of its second
abbrev tag_of : List (List ℕ) → ℕ
tag_of row = get_or (get_or row 0 []) 0 0 + 256 * get_or (get_or row 0 []) 1 0 + 65536 * get_or (get_or row 0 []) 2 0

abbrev version_of : List (List ℕ) → ℕ
version_of row = get_or (get_or row 1 []) 0 0

-- lines of the same words are the same
pub same_line : (a b : TableLine) → IsShortTableLine a → IsShortTableLine b → table_line_words a ≡ table_line_words b → a ≡ b
same_line FirstVersion FirstVersion h k e = refl
same_line SecondVersion SecondVersion h k e = refl
same_line FirstVersion SecondVersion h k e = absurd (differ 49 50 (ap version_of e) refl)
same_line SecondVersion FirstVersion h k e = absurd (differ 50 49 (ap version_of e) refl)
same_line (Sites m) (Sites n) h k e =
    let same : signed_decimal m ≡ signed_decimal n = cc e in
    ap Sites (same_number m n h k same)
same_line (Fixed m) (Fixed n) h k e =
    let same : signed_decimal m ≡ signed_decimal n = cc e in
    ap Fixed (same_number m n h k same)
same_line (Base m) (Base n) h k e =
    let same : signed_decimal m ≡ signed_decimal n = cc e in
    ap Base (same_number m n h k same)
same_line (Charge m) (Charge n) h k e =
    let same : signed_decimal m ≡ signed_decimal n = cc e in
    ap Charge (same_number m n h k same)
same_line (Levels m p) (Levels n q) h k e =
    let first : signed_decimal m ≡ signed_decimal n = cc e in
    let second : signed_decimal p ≡ signed_decimal q = cc e in
    let f = same_number m n h.0 k.0 first in
    let s = same_number p q h.1 k.1 second in
    cc (f, s)
same_line (Class m p) (Class n q) h k e =
    let first : signed_decimal m ≡ signed_decimal n = cc e in
    let second : signed_decimal p ≡ signed_decimal q = cc e in
    let f = same_number m n h.0 k.0 first in
    let s = same_number p q h.1 k.1 second in
    cc (f, s)
same_line (Pair i j c) (Pair k l d) h s e =
    let first : signed_decimal i ≡ signed_decimal k = cc e in
    let second : signed_decimal j ≡ signed_decimal l = cc e in
    let third : signed_decimal c ≡ signed_decimal d = cc e in
    let f = same_number i k h.0 s.0 first in
    let g = same_number j l h.1 s.1 second in
    let t = same_number c d h.2 s.2 third in
    cc (f, g, t)
same_line (Near i j c) (Near k l d) h s e =
    let first : signed_decimal i ≡ signed_decimal k = cc e in
    let second : signed_decimal j ≡ signed_decimal l = cc e in
    let third : signed_decimal c ≡ signed_decimal d = cc e in
    let f = same_number i k h.0 s.0 first in
    let g = same_number j l h.1 s.1 second in
    let t = same_number c d h.2 s.2 third in
    cc (f, g, t)
same_line End End h k e = refl
same_line a b h k e = absurd (differ (tag_of (table_line_words a)) (tag_of (table_line_words b)) (ap tag_of e) refl)

-- each word of a line holds no space and no line feed
one_number : (z : ℤ) → IsShort z → list_all is_word (signed_decimal z ∷ []) ≡ true
one_number z h = and_both _ _ (number_word z h) refl

two_numbers : (y z : ℤ) → IsShort y → IsShort z → list_all is_word (signed_decimal y ∷ signed_decimal z ∷ []) ≡ true
two_numbers y z h k = and_both _ _ (number_word y h) (one_number z k)

three_numbers : (x y z : ℤ) → IsShort x → IsShort y → IsShort z → list_all is_word (signed_decimal x ∷ signed_decimal y ∷ signed_decimal z ∷ []) ≡ true
three_numbers x y z g h k = and_both _ _ (number_word x g) (two_numbers y z h k)

pub line_row : (l : TableLine) → IsShortTableLine l → is_row (table_line_words l) ≡ true
line_row FirstVersion h = refl
line_row SecondVersion h = refl
line_row (Sites n) h = one_number n h
line_row (Fixed n) h = one_number n h
line_row (Base n) h = one_number n h
line_row (Levels m p) h = two_numbers m p h.0 h.1
line_row (Charge n) h = one_number n h
line_row (Class m p) h = two_numbers m p h.0 h.1
line_row (Pair i j c) h = three_numbers i j c h.0 h.1 h.2
line_row (Near i j c) h = three_numbers i j c h.0 h.1 h.2
line_row End h = refl

pub fine_rows : (before ls : List TableLine) → AreFineTableLines before ls → list_all is_row (map table_line_words ls) ≡ true
fine_rows before [] fine = refl
fine_rows before (l ∷ ls) fine = and_both _ _ (line_row l fine.0.short) (fine_rows (before ++ l ∷ []) ls fine.1)
