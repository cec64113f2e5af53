-- parts of texts, and the pairs that they are
use Rattle.std.proofs.Common.{◌≡◌, ◌∙◌, sym, ap, refl, subst, ℕ, zero, suc, ◌+◌, ◌<◌, ◌≤◌, ℤ, pos, List, [], ◌∷◌, ◌++◌, Bool, Some, take, length, get_or, arith, map, Option, None, IfSome, Result, Ok, Err, IfOk}
use Rattle.sidb_units.specs.declared.memory.Memory.{Memory}
use Rattle.std.specs.Borrow.{Bor}
use Rattle.std.specs.List.{AllZip, slice_split}
use Rattle.std.proofs.lemmas.List.{take_more, take_all, get_or-map, length-map}
use Rattle.std.proofs.lemmas.List.Splits.{length-slice_split}
use Rattle.std.proofs.lemmas.Slice.Zip.{all_zipped_more, AllZip-long}
use Rattle.sidb_units.specs.Decimal.{IsReadAs}
use Rattle.gate_model.specs.declared.TheConstants.{MAX_PAIR_PLACE}
use Rattle.gate_model.specs.declared.pairs.PairOf.{PairOf}
use Rattle.gate_model.specs.Pairs.{ArePairs, IsPair, IsPlace, between_colons, parts}

-- a text is read as one number
abbrev pub IsReadOnce : Type 0
IsReadOnce = (text : List ℕ) (places : ℕ) (least greatest v w : ℤ) → IsReadAs text places least greatest v → IsReadAs text places least greatest w → v ≡ w

-- a text has one part or more
pub some_part : (p : ℕ → Bool) (xs : List ℕ) → 1 ≤ length (slice_split p xs)
some_part p xs = omega (arith, length-slice_split p xs)

-- where what is behind the first part is cut again, there are not two parts
pub more_than_two : (p : ℕ → Bool) (xs ys zs a b : List ℕ) → slice_split p xs ≡ a ∷ slice_split p ys → slice_split p ys ≡ b ∷ slice_split p zs → (x y : List ℕ) → slice_split p xs ≡ x ∷ y ∷ [] → ⊥
more_than_two p xs ys zs a b first second x y two =
    let long : length (slice_split p xs) ≡ suc (suc (length (slice_split p zs))) = ap length first ∙ ap (λ (l : List (List ℕ)). suc (length l)) second in
    let short : length (slice_split p xs) ≡ 2 = ap length two in
    omega (arith, long, short, some_part p zs)

-- a part is no pair where its first word is no place
pub no_first : (part x y : List ℕ) → between_colons part ≡ x ∷ y ∷ [] → ((place : ℕ) → IsPlace x place → ⊥) → (pair : PairOf) → IsPair part pair → ⊥
no_first part x y words none pair is =
    let same : is.a_word ≡ x = cc (words, is.words) in none pair.a (subst (λ w. IsPlace w pair.a) same is.a)

-- nor where its second word is none
pub no_second : (part x y : List ℕ) → between_colons part ≡ x ∷ y ∷ [] → ((place : ℕ) → IsPlace y place → ⊥) → (pair : PairOf) → IsPair part pair → ⊥
no_second part x y words none pair is =
    let same : is.b_word ≡ y = cc (words, is.words) in none pair.b (subst (λ w. IsPlace w pair.b) same is.b)

parts_long : (xs : List (Bor (List ℕ))) → length (map (λ w. w.now) xs) ≡ length xs
parts_long xs = length-map xs (λ w. w.now)

-- a part of a text among its parts
pub part_at : (xs : List (Bor (List ℕ))) (k : ℕ) (d : Bor (List ℕ)) → k < length xs → get_or (map (λ w. w.now) xs) k [] ≡ (get_or xs k d).now
part_at xs k d lt = get_or-map (λ w. w.now) xs k d [] lt

-- one more part that is a pair
pub one_more_pair : (xs : List (List ℕ)) (ys : List PairOf) (i : ℕ) (pair : PairOf) → i < length xs → AllZip IsPair (take i xs) ys → IsPair (get_or xs i []) pair → AllZip IsPair (take (i + 1) xs) (ys ++ pair ∷ [])
one_more_pair xs ys i pair lt zip is = subst (λ l. AllZip IsPair l (ys ++ pair ∷ [])) (sym (take_more xs i [] lt)) (all_zipped_more IsPair (take i xs) ys (get_or xs i []) pair zip is)

pub one_more_part : (xs : List (Bor (List ℕ))) (ys : List PairOf) (k : ℕ) (d : Bor (List ℕ)) (pair : PairOf) → k < length xs → AllZip IsPair (take k (map (λ w. w.now) xs)) ys → IsPair (get_or xs k d).now pair → AllZip IsPair (take (k + 1) (map (λ w. w.now) xs)) (ys ++ pair ∷ [])
one_more_part xs ys k d pair lt zip is =
    one_more_pair (map (λ w. w.now) xs) ys k pair (omega (arith, parts_long xs, lt)) zip (subst (λ w. IsPair w pair) (sym (part_at xs k d lt)) is)

-- each part of a list of pairs is a pair
pub pair_at : (xs : List (List ℕ)) (ys : List PairOf) (i : ℕ) → AllZip IsPair xs ys → i < length xs → (pair : PairOf) × IsPair (get_or xs i []) pair
pair_at [] ys i zip lt = absurd (omega arith)
pair_at (x ∷ xs) [] i zip lt = absurd zip
pair_at (x ∷ xs) (y ∷ ys) zero zip lt = (y, zip.0)
pair_at (x ∷ xs) (y ∷ ys) (suc i) zip lt = pair_at xs ys i zip.1 (omega arith)

-- where a part is no pair, the parts are no list of pairs
pub no_pairs : (xs : List (Bor (List ℕ))) (k : ℕ) (d : Bor (List ℕ)) → k < length xs → ((pair : PairOf) → IsPair (get_or xs k d).now pair → ⊥) → (pairs : List PairOf) → AllZip IsPair (map (λ w. w.now) xs) pairs → ⊥
no_pairs xs k d lt none pairs zip =
    let one = pair_at (map (λ w. w.now) xs) pairs k zip (omega (arith, parts_long xs, lt)) in
    none one.0 (subst (λ w. IsPair w one.0) (part_at xs k d lt) one.1)

-- all parts were pairs
pub all_pairs : (xs : List (Bor (List ℕ))) (ys : List PairOf) (k : ℕ) → length xs ≤ k → AllZip IsPair (take k (map (λ w. w.now) xs)) ys → AllZip IsPair (map (λ w. w.now) xs) ys
all_pairs xs ys k past zip = subst (λ l. AllZip IsPair l ys) (take_all k (map (λ w. w.now) xs) (omega (arith, parts_long xs, past))) zip

-- a text with too many parts is no list of pairs
pub too_many : (text : List ℕ) (xs : List (Bor (List ℕ))) (most : ℕ) → map (λ w. w.now) xs ≡ parts text → most < length xs → (pairs : List PairOf) → ArePairs most text pairs → ⊥
too_many text xs most same lt pairs are =
    omega (arith, AllZip-long IsPair (parts text) pairs are.each, ap length same, parts_long xs, are.few)

-- what the parts are, the text is
pub whole_text : (text : List ℕ) (xs : List (Bor (List ℕ))) (most : ℕ) → map (λ w. w.now) xs ≡ parts text → length xs ≤ most → (r : Result (Option (List PairOf)) Memory) → IfOk r (λ read. IfSome read (AllZip IsPair (map (λ w. w.now) xs))) → IfOk r (λ read. IfSome read (ArePairs most text))
whole_text text xs most same few (Err e) zip = tt
whole_text text xs most same few (Ok None) zip = tt
whole_text text xs most same few (Ok (Some pairs)) zip = record {
  each = subst (λ l. AllZip IsPair l pairs) same zip;
  few = omega (arith, AllZip-long IsPair (map (λ w. w.now) xs) pairs zip, parts_long xs, few);
}

-- a text is one list of pairs
abbrev pair_of : ℕ → ℕ → PairOf
pair_of a b = record { a = a; b = b }

same_place : (m n : ℕ) → pos m ≡ pos n → m ≡ n
same_place m n e = cc

one_pair : IsReadOnce → (part : List ℕ) (x y : PairOf) → IsPair part x → IsPair part y → x ≡ y
one_pair once part x y e f =
    let first : f.a_word ≡ e.a_word = cc (e.words, f.words) in
    let second : f.b_word ≡ e.b_word = cc (e.words, f.words) in
    let a : x.a ≡ y.a = same_place x.a y.a (once e.a_word 0 (pos 0) MAX_PAIR_PLACE (pos x.a) (pos y.a) e.a (subst (λ w. IsPlace w y.a) first f.a)) in
    let b : x.b ≡ y.b = same_place x.b y.b (once e.b_word 0 (pos 0) MAX_PAIR_PLACE (pos x.b) (pos y.b) e.b (subst (λ w. IsPlace w y.b) second f.b)) in
    ap (λ n. pair_of n x.b) a ∙ ap (pair_of y.a) b

pub same_pairs : IsReadOnce → (xs : List (List ℕ)) (a b : List PairOf) → AllZip IsPair xs a → AllZip IsPair xs b → a ≡ b
same_pairs once [] [] [] e f = refl
same_pairs once [] (x ∷ a) b e f = absurd e
same_pairs once [] [] (y ∷ b) e f = absurd f
same_pairs once (w ∷ xs) [] b e f = absurd e
same_pairs once (w ∷ xs) (x ∷ a) [] e f = absurd f
same_pairs once (w ∷ xs) (x ∷ a) (y ∷ b) e f = let head : x ≡ y = one_pair once w x y e.0 f.0 in let tail : a ≡ b = same_pairs once xs a b e.1 f.1 in cc
