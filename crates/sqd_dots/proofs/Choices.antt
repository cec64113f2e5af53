-- lists and tests, one element more
use Rattle.std.proofs.Common.{◌≡◌, sym, subst, ℕ, List, ◌∷◌, Bool, true, false, filter, Option, Some, None}
use Rattle.std.specs.List.{filter_map}
use Rattle.std.specs.Str.{bytes_eq}
use Rattle.std.proofs.lemmas.Slice.Eq.{bytes_eq-Decides}

pub filter_yes : {X : Type 0} (p : X → Bool) (x : X) (xs : List X) → p x ≡ true → filter p (x ∷ xs) ≡ x ∷ filter p xs
filter_yes p x xs h = rw h

pub filter_no : {X : Type 0} (p : X → Bool) (x : X) (xs : List X) → p x ≡ false → filter p (x ∷ xs) ≡ filter p xs
filter_no p x xs h = rw h

pub map_yes : {X Y : Type 0} (f : X → Option Y) (x : X) (y : Y) (xs : List X) → f x ≡ Some y → filter_map f (x ∷ xs) ≡ y ∷ filter_map f xs
map_yes f x y xs h = rw h

pub map_no : {X Y : Type 0} (f : X → Option Y) (x : X) (xs : List X) → f x ≡ None → filter_map f (x ∷ xs) ≡ filter_map f xs
map_no f x xs h = rw h

-- bytes are one of two different words
pub other_word : (bytes a b : List ℕ) → bytes_eq bytes a ≡ true → bytes_eq a b ≡ false → bytes_eq bytes b ≡ false
other_word bytes a b h g =
    let same : bytes ≡ a = (bytes_eq-Decides bytes a).0 h in
    subst (λ w. bytes_eq w b ≡ false) (sym same) g
