-- rows behind rows
use Rattle.std.proofs.Common.{◌≡◌, ◌∙◌, ap, sym, refl, ℕ, ◌+◌, ◌≤◌, List, [], ◌∷◌, ◌++◌, append_assoc, length, map, take, Some}
use Rattle.std.proofs.lemmas.List.{take_more, take_all}
use Rattle.std.proofs.lemmas.Option.{slice_get_within, get_or_from_slice_get, slice_get-map}
use Rattle.std.specs.List.{slice_get, join_with_byte}
use Rattle.std.specs.Option.{option_map}
use Rattle.text_rows.specs.Rows.{text_of}

pub text_of-append : (rows more : List (List (List ℕ))) → text_of (rows ++ more) ≡ text_of rows ++ text_of more
text_of-append [] more = refl
text_of-append (row ∷ rows) more =
    ap (λ text. join_with_byte 32 row ++ 10 ∷ text) (text_of-append rows more)
    ∙ sym (append_assoc (join_with_byte 32 row) (10 ∷ text_of rows) (text_of more))

-- one more row behind the first j of them
pub one_more_row : (rows : List (List (List ℕ))) (j : ℕ) (row : List (List ℕ)) (old new line : List ℕ) → slice_get rows j ≡ Some row → old ≡ text_of (take j rows) → line ≡ join_with_byte 32 row → new ≡ old ++ (line ++ 10 ∷ []) → new ≡ text_of (take (j + 1) rows)
one_more_row rows j row old new line here before is pushed =
    let taken : take (j + 1) rows ≡ take j rows ++ row ∷ [] = take_more rows j row (slice_get_within rows j row here) ∙ ap (λ x. take j rows ++ x ∷ []) (get_or_from_slice_get rows j row row here) in
    pushed ∙ ap (λ text. text ++ (line ++ 10 ∷ [])) before ∙ ap (λ end. text_of (take j rows) ++ (end ++ 10 ∷ [])) is ∙ sym (text_of-append (take j rows) (row ∷ [])) ∙ ap text_of (sym taken)

-- all rows
pub all_rows : (rows : List (List (List ℕ))) (j : ℕ) (text : List ℕ) → length rows ≤ j → text ≡ text_of (take j rows) → text ≡ text_of rows
all_rows rows j text past before = before ∙ ap text_of (take_all j rows past)

-- the row of element j
pub row_at : {X : Type 0} (row_of : X → List (List ℕ)) (xs : List X) (j : ℕ) (x : X) → slice_get xs j ≡ Some x → slice_get (map row_of xs) j ≡ Some (row_of x)
row_at row_of xs j x here = slice_get-map row_of xs j ∙ ap (option_map row_of) here

-- three parts of a text
pub three_parts : (first second third : List (List (List ℕ))) (a b d ab abd : List ℕ) → a ≡ text_of first → b ≡ text_of second → d ≡ text_of third → ab ≡ a ++ b → abd ≡ ab ++ d → abd ≡ text_of (first ++ (second ++ third))
three_parts first second third a b d ab abd one two three more whole =
    whole ∙ ap (λ t. t ++ d) more ∙ append_assoc a b d ∙ ap (λ t. t ++ (b ++ d)) one ∙ ap (λ t. text_of first ++ (t ++ d)) two ∙ ap (λ t. text_of first ++ (text_of second ++ t)) three
    ∙ ap (λ t. text_of first ++ t) (sym (text_of-append second third)) ∙ sym (text_of-append first (second ++ third))

-- words behind words
pub join_append : (first : List ℕ) (more : List (List ℕ)) (word : List ℕ) (words : List (List ℕ)) → join_with_byte 32 ((first ∷ more) ++ (word ∷ words)) ≡ join_with_byte 32 (first ∷ more) ++ 32 ∷ join_with_byte 32 (word ∷ words)
join_append first [] word words = refl
join_append first (next ∷ more) word words =
    ap (λ end. first ++ 32 ∷ end) (join_append next more word words) ∙ sym (append_assoc first (32 ∷ join_with_byte 32 (next ∷ more)) (32 ∷ join_with_byte 32 (word ∷ words)))
