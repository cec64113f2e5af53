-- one more value behind the values of a list
use Rattle.std.proofs.Common.{◌≡◌, ◌∙◌, ap, sym, ℕ, ◌+◌, ◌<◌, ◌≤◌, List, [], ◌∷◌, ◌++◌, length, map, take, get_or, Some, arith}
use Rattle.std.specs.Prelude.{zip}
use Rattle.std.specs.List.{slice_get}
use Rattle.std.specs.Option.{option_map}
use Rattle.std.proofs.lemmas.List.{map-append, take_more, take_all}
use Rattle.std.proofs.lemmas.Option.{slice_get_within, get_or_from_slice_get, slice_get-get_or, slice_get-map}
use Rattle.std.proofs.lemmas.Slice.Zip.{length-zip, get_or-zip}
use Rattle.serde_json.specs.Data.{Data}
use Rattle.serde_json.specs.View.{view}
use Rattle.serde_json.specs.declared.value.Value.{Value}

pub one_more_item : {X : Type 0} (data_of : X → Data) (xs : List X) (j : ℕ) (x : X) (old new : List Value) (v : Value) → slice_get xs j ≡ Some x → map view old ≡ take j (map data_of xs) → view v ≡ data_of x → new ≡ old ++ v ∷ [] → map view new ≡ take (j + 1) (map data_of xs)
one_more_item data_of xs j x old new v here before is pushed =
    let items : List Data = map data_of xs in
    let at : slice_get items j ≡ Some (data_of x) = slice_get-map data_of xs j ∙ ap (option_map data_of) here in
    let taken : take (j + 1) items ≡ take j items ++ data_of x ∷ [] = take_more items j (data_of x) (slice_get_within items j (data_of x) at) ∙ ap (λ y. take j items ++ y ∷ []) (get_or_from_slice_get items j (data_of x) (data_of x) at) in
    ap (map view) pushed ∙ map-append view old (v ∷ []) ∙ ap (λ ys. ys ++ view v ∷ []) before ∙ ap (λ y. take j items ++ y ∷ []) is ∙ sym taken

-- all of them
pub all_items : (items : List Data) (j : ℕ) (values : List Value) → length items ≤ j → map view values ≡ take j items → map view values ≡ items
all_items items j values past before = before ∙ take_all j items past

-- the elements j of two lists
pub zipped_at : {X Y : Type 0} (xs : List X) (ys : List Y) (j : ℕ) (x : X) (y : Y) → slice_get xs j ≡ Some x → slice_get ys j ≡ Some y → slice_get (zip xs ys) j ≡ Some (x, y)
zipped_at xs ys j x y here there =
    let first : j < length xs = slice_get_within xs j x here in
    let second : j < length ys = slice_get_within ys j y there in
    let inside : j < length (zip xs ys) = omega (arith, length-zip xs ys) in
    slice_get-get_or (zip xs ys) j (x, y) inside
    ∙ ap Some (get_or-zip xs ys j (x, y) first second ∙ ap (λ a. (a, get_or ys j y)) (get_or_from_slice_get xs j x x here) ∙ ap (λ b. (x, b)) (get_or_from_slice_get ys j y y there))
