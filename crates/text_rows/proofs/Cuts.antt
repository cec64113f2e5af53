-- Taking off the first part of a split.
use Rattle.std.proofs.Common.{◌≡◌, ◌∙◌, sym, ap, refl, ℕ, ◌+◌, ◌<◌, ◌≤◌, List, [], ◌∷◌, length, take, drop, ◌++◌, get_or, eqb, add-one, drop-cons, Option, None, Some, Bool, true, false, cond, arith}
use Rattle.std.specs.List.{position, position_or_len, slice_split}
use Rattle.std.proofs.lemmas.Bool.{ltb-false}
use Rattle.std.proofs.lemmas.Bool.Decides.{Decides-eqb}
use Rattle.std.proofs.lemmas.List.{take-append-drop}
use Rattle.std.proofs.lemmas.List.Quantifiers.{position-Some}
use Rattle.std.proofs.lemmas.List.Sums.{position_or_len_is, fails_before_first}
use Rattle.std.proofs.lemmas.List.Splits.{slice_split_first, slice_split_none}

from_none : (b : Bool) (n : ℕ) → ◌≡◌ {A = Option ℕ} (cond b (Some n) None) None → b ≡ false
from_none true n e = absurd (cc)
from_none false n e = refl

-- where no byte passes, there is one part
pub cut_none : (p : ℕ → Bool) (xs : List ℕ) → position p xs ≡ None → slice_split p xs ≡ xs ∷ []
cut_none p xs e =
    let past : length xs ≤ position_or_len p xs = ltb-false _ _ (from_none _ _ e) in
    slice_split_none p xs (λ k d h. fails_before_first p xs k d (omega (arith, past, h)))

-- the first part ends at the first byte that passes
pub cut_at : (p : ℕ → Bool) (xs : List ℕ) (i : ℕ) → position p xs ≡ Some i → slice_split p xs ≡ take i xs ∷ slice_split p (drop (i + 1) xs)
cut_at p xs i e =
    let found = position-Some p xs i 0 e in
    let within : i ≤ length xs = omega (arith, found.0) in
    let is = position_or_len_is p xs i 0 within found.2 (λ _. found.1) in
    let before : position_or_len p xs < length xs = omega (arith, found.0, is) in
    slice_split_first p xs 0 before ∙ ap (λ n. take n xs ∷ slice_split p (drop (n + 1) xs)) is

-- the byte stands between the two parts
pub cut_bytes : (b : ℕ) (xs : List ℕ) (i : ℕ) → position (λ x. eqb x b) xs ≡ Some i → xs ≡ take i xs ++ b ∷ drop (i + 1) xs
cut_bytes b xs i e =
    let found = position-Some (λ x. eqb x b) xs i 0 e in
    let within : i < length xs = found.0 in
    let is : get_or xs i 0 ≡ b = (Decides-eqb (get_or xs i 0) b).0 found.1 in
    let rest : drop i xs ≡ get_or xs i 0 ∷ drop (i + 1) xs = rw add-one (drop-cons xs i 0 within) in
    sym (take-append-drop i xs) ∙ ap (λ r. take i xs ++ r) (rest ∙ ap (λ x. x ∷ drop (i + 1) xs) is)
