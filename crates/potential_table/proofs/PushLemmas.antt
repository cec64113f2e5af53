-- Lines and words that are added at the end.
use Rattle.std.proofs.Common.{◌≡◌, ◌∙◌, sym, ap, refl, ℕ, ℤ, zero, suc, ◌+◌, ◌-◌, ◌<◌, ◌≤◌, List, [], ◌∷◌, ◌++◌, map, length, take, get_or, append_assoc, arith}
use Rattle.std.specs.List.{join_with_byte, range_with_len, flat_map}
use Rattle.std.proofs.lemmas.List.{map_more, flat_map_more}
use Rattle.std.proofs.lemmas.List.FromFn.{map-range_with_len_more}
use Rattle.table_lines.specs.declared.line.TableLine.TheVariants.{Class}
use Rattle.text_rows.specs.Rows.{text_of}
use Rattle.table_lines.specs.declared.line.TableLine.{TableLine}
use Rattle.table_lines.specs.Lines.{table_line_words}

-- one more of the items
pub one_more : {X : Type 0} (f : X → TableLine) (old xs ys : List TableLine) (items : List X) (i : ℕ) (d : X) → i < length items → xs ≡ old ++ map f (take i items) → ys ≡ xs ++ f (get_or items i d) ∷ [] → ys ≡ old ++ map f (take (i + 1) items)
one_more f old xs ys items i d lt is pushed =
    pushed ∙ ap (λ t. t ++ f (get_or items i d) ∷ []) is ∙ append_assoc old (map f (take i items)) (f (get_or items i d) ∷ []) ∙ ap (λ t. old ++ t) (sym (map_more f items i d lt))

-- a class that was pushed
pub class_pushed : (xs ys : List TableLine) (a b lo hi : ℤ) → ys ≡ xs ++ Class a b ∷ [] → a ≡ lo → b ≡ hi → ys ≡ xs ++ Class lo hi ∷ []
class_pushed xs ys a b lo hi pushed e f = pushed ∙ ap (λ z. xs ++ Class z b ∷ []) e ∙ ap (λ z. xs ++ Class lo z ∷ []) f

-- one more of the numbers from a on
pub one_more_number : (f : ℕ → TableLine) (old xs ys : List TableLine) (a j : ℕ) → a ≤ j → xs ≡ old ++ map f (range_with_len a (j - a)) → ys ≡ xs ++ f j ∷ [] → ys ≡ old ++ map f (range_with_len a (j + 1 - a))
one_more_number f old xs ys a j le is pushed =
    let n : j + 1 - a ≡ (j - a) + 1 = omega (arith, le) in
    let at : a + (j - a) ≡ j = omega (arith, le) in
    let more = ap (λ k. map f (range_with_len a k)) n ∙ map-range_with_len_more f a (j - a) j at in
    pushed ∙ ap (λ t. t ++ f j ∷ []) is ∙ append_assoc old (map f (range_with_len a (j - a))) (f j ∷ []) ∙ ap (λ t. old ++ t) (sym more)

-- one more number
range_on : (a n j : ℕ) → a + n ≡ j → range_with_len a (suc n) ≡ range_with_len a n ++ j ∷ []
range_on a zero j e =
    let same : a ≡ j = omega (arith, e) in ap (λ x. x ∷ []) same
range_on a (suc n) j e = ap (λ l. a ∷ l) (range_on (a + 1) n j (omega (arith, e)))

counting_more : (i : ℕ) → range_with_len 0 (i + 1) ≡ range_with_len 0 i ++ i ∷ []
counting_more i =
    let on : i + 1 ≡ suc i = omega arith in
    ap (range_with_len 0) on ∙ range_on 0 i i (omega arith)

-- the lines of one more site
pub one_more_site : (f : ℕ → List TableLine) (old xs ys : List TableLine) (i : ℕ) → xs ≡ old ++ flat_map f (range_with_len 0 i) → ys ≡ xs ++ f i → ys ≡ old ++ flat_map f (range_with_len 0 (i + 1))
one_more_site f old xs ys i is pushed =
    pushed ∙ ap (λ t. t ++ f i) is ∙ flat_map_more f old (range_with_len 0 i) i ∙ ap (λ r. old ++ flat_map f r) (sym (counting_more i))

-- the text of more rows
pub text_of-append : (rows more : List (List (List ℕ))) → text_of (rows ++ more) ≡ text_of rows ++ text_of more
text_of-append [] more = refl
text_of-append (row ∷ rows) more =
    ap (λ text. join_with_byte 32 row ++ 10 ∷ text) (text_of-append rows more) ∙ sym (append_assoc (join_with_byte 32 row) (10 ∷ text_of rows) (text_of more))

pub one_more_line : (xs ys : List ℕ) (lines : List TableLine) (i : ℕ) (d : TableLine) → i < length lines → xs ≡ text_of (map table_line_words (take i lines)) → ys ≡ xs ++ text_of (table_line_words (get_or lines i d) ∷ []) → ys ≡ text_of (map table_line_words (take (i + 1) lines))
one_more_line xs ys lines i d lt is pushed =
    pushed ∙ ap (λ t. t ++ text_of (table_line_words (get_or lines i d) ∷ [])) is ∙ sym (text_of-append (map table_line_words (take i lines)) (table_line_words (get_or lines i d) ∷ [])) ∙ ap text_of (sym (map_more table_line_words lines i d lt))
