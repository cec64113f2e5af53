-- elements with their numbers, and elements of two lists side by side
use Rattle.std.proofs.Common.{◌≡◌, ◌∙◌, ap, ℕ, ◌+◌, ◌<◌, ◌≤◌, List, [], ◌∷◌, ◌++◌, length, map, take, get_or, Some, subst, sym, arith}
use Rattle.std.proofs.lemmas.List.{length-map}
use Rattle.std.specs.Prelude.{zip}
use Rattle.std.specs.List.{slice_get, enumerate_from, join_with_byte}
use Rattle.std.proofs.lemmas.Option.{slice_get_within, get_or_from_slice_get, slice_get-get_or}
use Rattle.std.proofs.lemmas.List.FromFn.{length-enumerate_from, get_or-enumerate_from}
use Rattle.std.proofs.lemmas.Slice.Zip.{length-zip, get_or-zip}
use Rattle.text_rows.specs.Rows.{text_of}
use Rattle.sim_report.proofs.RowLemmas.{one_more_row, all_rows, row_at}

-- element i with its number
numbered_at : {X : Type 0} (xs : List X) (i : ℕ) (x : X) → slice_get xs i ≡ Some x → slice_get (enumerate_from 0 xs) i ≡ Some (i, x)
numbered_at xs i x here =
    let within : i < length xs = slice_get_within xs i x here in
    let inside : i < length (enumerate_from 0 xs) = subst (λ n. i < n) (sym (length-enumerate_from 0 xs)) within in
    let number : 0 + i ≡ i = omega arith in
    slice_get-get_or (enumerate_from 0 xs) i (0, x) inside
    ∙ ap Some (get_or-enumerate_from 0 xs i (0, x) within ∙ ap (λ k. (k, get_or xs i x)) number ∙ ap (λ y. (i, y)) (get_or_from_slice_get xs i x x here))

-- the elements j of two lists
pub zipped_at : {X Y : Type 0} (xs : List X) (ys : List Y) (j : ℕ) (x : X) (y : Y) → slice_get xs j ≡ Some x → slice_get ys j ≡ Some y → slice_get (zip xs ys) j ≡ Some (x, y)
zipped_at xs ys j x y here there =
    let first : j < length xs = slice_get_within xs j x here in
    let second : j < length ys = slice_get_within ys j y there in
    let inside : j < length (zip xs ys) = omega (arith, length-zip xs ys) in
    slice_get-get_or (zip xs ys) j (x, y) inside
    ∙ ap Some (get_or-zip xs ys j (x, y) first second ∙ ap (λ a. (a, get_or ys j y)) (get_or_from_slice_get xs j x x here) ∙ ap (λ b. (x, b)) (get_or_from_slice_get ys j y y there))

-- one more row of an element and its number
pub one_more_numbered : {X : Type 0} (row_of : ℕ × X → List (List ℕ)) (xs : List X) (i : ℕ) (x : X) (old new line : List ℕ) → slice_get xs i ≡ Some x → old ≡ text_of (take i (map row_of (enumerate_from 0 xs))) → line ≡ join_with_byte 32 (row_of (i, x)) → new ≡ old ++ (line ++ 10 ∷ []) → new ≡ text_of (take (i + 1) (map row_of (enumerate_from 0 xs)))
one_more_numbered row_of xs i x old new line here before is pushed =
    one_more_row (map row_of (enumerate_from 0 xs)) i (row_of (i, x)) old new line (row_at row_of (enumerate_from 0 xs) i (i, x) (numbered_at xs i x here)) before is pushed

-- all of them
pub all_numbered : {X : Type 0} (row_of : ℕ × X → List (List ℕ)) (xs : List X) (i : ℕ) (text : List ℕ) → length xs ≤ i → text ≡ text_of (take i (map row_of (enumerate_from 0 xs))) → text ≡ text_of (map row_of (enumerate_from 0 xs))
all_numbered row_of xs i text past before =
    all_rows (map row_of (enumerate_from 0 xs)) i text (subst (λ n. n ≤ i) (sym (length-map (enumerate_from 0 xs) row_of ∙ length-enumerate_from 0 xs)) past) before
