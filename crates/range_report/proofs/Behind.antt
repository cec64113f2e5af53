-- rows behind rows, and what is written, followed by what is due for the rest of the parts
use Rattle.std.proofs.Common.{◌≡◌, ◌∙◌, ap, sym, refl, ℕ, ◌+◌, ◌<◌, ◌≤◌, List, [], ◌∷◌, ◌++◌, append_assoc, length, map, take, drop, Option, None, Some, drop-cons, add-one, pos, codes}
use Rattle.std.specs.Prelude.{IsNone, decimal}
use Rattle.std.proofs.lemmas.List.{append-nil, drop_all, take_more, take_all}
use Rattle.std.proofs.lemmas.Option.{slice_get_within, get_or_from_slice_get, slice_get-map}
use Rattle.std.specs.List.{slice_get, join_with_byte}
use Rattle.std.specs.Option.{option_map}
use Rattle.text_rows.specs.Rows.{text_of}
use Rattle.level_range_laws.specs.Answers.{Outcome}
use Rattle.level_range_laws.specs.Parts.{Printed, printed_at, printed_split}
use Rattle.level_range.specs.Seen.{or_none}
use Rattle.range_report.specs.RangeText.{end_words, part_rows, parts_rows}

text_of-append : (rows more : List (List (List ℕ))) → text_of (rows ++ more) ≡ text_of rows ++ text_of more
text_of-append [] more = refl
text_of-append (row ∷ rows) more =
    ap (λ text. join_with_byte 32 row ++ 10 ∷ text) (text_of-append rows more)
    ∙ sym (append_assoc (join_with_byte 32 row) (10 ∷ text_of rows) (text_of more))

-- one more row behind the first j of them
pub one_more_row : (rows : List (List (List ℕ))) (j : ℕ) (row : List (List ℕ)) (old new line : List ℕ) → slice_get rows j ≡ Some row → old ≡ text_of (take j rows) → line ≡ join_with_byte 32 row → new ≡ old ++ (line ++ 10 ∷ []) → new ≡ text_of (take (j + 1) rows)
one_more_row rows j row old new line here before is pushed =
    let taken : take (j + 1) rows ≡ take j rows ++ row ∷ [] = take_more rows j row (slice_get_within rows j row here) ∙ ap (λ x. take j rows ++ x ∷ []) (get_or_from_slice_get rows j row row here) in
    pushed ∙ ap (λ text. text ++ (line ++ 10 ∷ [])) before ∙ ap (λ end. text_of (take j rows) ++ (end ++ 10 ∷ [])) is ∙ sym (text_of-append (take j rows) (row ∷ [])) ∙ ap text_of (sym taken)

-- the row of element j
pub row_at : {X : Type 0} (row_of : X → List (List ℕ)) (xs : List X) (j : ℕ) (x : X) → slice_get xs j ≡ Some x → slice_get (map row_of xs) j ≡ Some (row_of x)
row_at row_of xs j x here = slice_get-map row_of xs j ∙ ap (option_map row_of) here

-- all rows
pub all_rows : (rows : List (List (List ℕ))) (j : ℕ) (text : List ℕ) → length rows ≤ j → text ≡ text_of (take j rows) → text ≡ text_of rows
all_rows rows j text past before = before ∙ ap text_of (take_all j rows past)

-- what stands behind the levels of a part, where it is split, and where it is not
pub split_end : (answer : Option (List Outcome)) → IsNone answer → join_with_byte 32 (end_words answer) ≡ codes "split"
split_end None none = refl
split_end (Some entries) none = absurd (cc)

pub whole_end : (answer : Option (List Outcome)) → (IsNone answer → ⊥) → end_words answer ≡ codes "entries" ∷ decimal (length (or_none answer)) ∷ []
whole_end None some = absurd (some refl)
whole_end (Some entries) some = refl

-- the rest of the parts from place k on
rest_at : (parts : List Printed) (k : ℕ) → k < length parts → drop k parts ≡ printed_at parts k ∷ drop (k + 1) parts
rest_at parts k lt = drop-cons parts k printed_none lt ∙ ap (λ n. printed_at parts k ∷ drop n parts) (sym (add-one k))
  where
    printed_none : Printed
    printed_none = printed_split (pos 0) (pos 0)

-- the lines of the parts that are left
abbrev pub lines_due : ℕ → List Printed → List ℕ
lines_due k parts = text_of (parts_rows (drop k parts))

pub one_more_part : (parts : List Printed) (k : ℕ) (old new whole : List ℕ) → k < length parts → old ++ lines_due k parts ≡ whole → new ≡ old ++ text_of (part_rows (printed_at parts k)) → new ++ lines_due (k + 1) parts ≡ whole
one_more_part parts k old new whole lt before is =
    let rest = drop (k + 1) parts in
    let here = part_rows (printed_at parts k) in
    ap (λ l. l ++ text_of (parts_rows rest)) is ∙ append_assoc old (text_of here) (text_of (parts_rows rest))
    ∙ ap (λ l. old ++ l) (sym (text_of-append here (parts_rows rest))) ∙ ap (λ l. old ++ text_of (parts_rows l)) (sym (rest_at parts k lt)) ∙ before

pub all_parts : (parts : List Printed) (k : ℕ) (old whole : List ℕ) → length parts ≤ k → old ++ lines_due k parts ≡ whole → old ≡ whole
all_parts parts k old whole past before = sym (append-nil old) ∙ ap (λ l. old ++ text_of (parts_rows l)) (sym (drop_all k parts past)) ∙ before

-- a line and the lines behind it
pub line_and_rows : (row : List (List ℕ)) (rows : List (List (List ℕ))) (base line more one two : List ℕ) → line ≡ join_with_byte 32 row → more ≡ text_of rows → one ≡ base ++ (line ++ 10 ∷ []) → two ≡ one ++ more → two ≡ base ++ text_of (row ∷ rows)
line_and_rows row rows base line more one two is are first second =
    second ∙ ap (λ t. t ++ more) (first ∙ ap (λ t. base ++ (t ++ 10 ∷ [])) is) ∙ ap (λ t. (base ++ (join_with_byte 32 row ++ 10 ∷ [])) ++ t) are
    ∙ append_assoc base (join_with_byte 32 row ++ 10 ∷ []) (text_of rows) ∙ ap (λ t. base ++ t) (append_assoc (join_with_byte 32 row) (10 ∷ []) (text_of rows))

-- three parts of a text
pub three_parts : (first second third : List (List (List ℕ))) (a b d ab abd : List ℕ) → a ≡ text_of first → b ≡ text_of second → d ≡ text_of third → ab ≡ a ++ b → abd ≡ ab ++ d → abd ≡ text_of (first ++ (second ++ third))
three_parts first second third a b d ab abd one two three more whole =
    whole ∙ ap (λ t. t ++ d) more ∙ append_assoc a b d ∙ ap (λ t. t ++ (b ++ d)) one ∙ ap (λ t. text_of first ++ (t ++ d)) two ∙ ap (λ t. text_of first ++ (text_of second ++ t)) three
    ∙ ap (λ t. text_of first ++ t) (sym (text_of-append second third)) ∙ sym (text_of-append first (second ++ third))

-- words behind two words
pub words_behind : (first : List ℕ) (more : List (List ℕ)) (word : List ℕ) (words : List (List ℕ)) → join_with_byte 32 ((first ∷ more) ++ (word ∷ words)) ≡ join_with_byte 32 (first ∷ more) ++ 32 ∷ join_with_byte 32 (word ∷ words)
words_behind first [] word words = refl
words_behind first (next ∷ more) word words =
    ap (λ end. first ++ 32 ∷ end) (words_behind next more word words) ∙ sym (append_assoc first (32 ∷ join_with_byte 32 (next ∷ more)) (32 ∷ join_with_byte 32 (word ∷ words)))
