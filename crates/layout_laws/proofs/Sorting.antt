-- a list whose elements are all before or after one another has its elements in order
use Rattle.std.proofs.Common.{zero, suc, ◌⊎◌, inl, inr, List, [], ◌∷◌, map, arith}
use Rattle.std.specs.Prelude.{All, AllPairs, IsPermutation}
use Rattle.std.proofs.lemmas.List.Elements.{All-nil, All-cons, All-head, All-tail, All-map}
use Rattle.std.proofs.lemmas.List.Kept.{AllPairs-cons}
use Rattle.std.proofs.lemmas.List.Sorted.{IsPermutation-refl, IsPermutation-trans, IsPermutation-cons, IsPermutation-middle, All-permutation}

pub pairs_nil : {X : Type 0} (R : X → X → Type 0) → AllPairs R []
pairs_nil R i j d before within = absurd (omega arith)

pub pairs_head : {X : Type 0} (R : X → X → Type 0) (x : X) (xs : List X) → AllPairs R (x ∷ xs) → All (R x) xs
pairs_head R x xs h k d within = h zero (suc k) d (omega arith) (omega arith)

pub pairs_tail : {X : Type 0} (R : X → X → Type 0) (x : X) (xs : List X) → AllPairs R (x ∷ xs) → AllPairs R xs
pairs_tail R x xs h i j d before within = h (suc i) (suc j) d (omega arith) (omega arith)

pub pairs_map : {X Y : Type 0} (R : Y → Y → Type 0) (f : X → Y) (xs : List X) → AllPairs (λ a b. R (f a) (f b)) xs → AllPairs R (map f xs)
pairs_map R f [] h = pairs_nil R
pairs_map R f (x ∷ xs) h =
    AllPairs-cons R (f x) (map f xs) (All-map (R (f x)) f xs (pairs_head (λ a b. R (f a) (f b)) x xs h))
    (pairs_map R f xs (pairs_tail (λ a b. R (f a) (f b)) x xs h))

pub pairs_unmap : {X Y : Type 0} (R : Y → Y → Type 0) (f : X → Y) (xs : List X) → AllPairs R (map f xs) → AllPairs (λ a b. R (f a) (f b)) xs
pairs_unmap R f [] h = pairs_nil (λ a b. R (f a) (f b))
pairs_unmap R f (x ∷ xs) h =
    AllPairs-cons (λ a b. R (f a) (f b)) x xs (all_unmap (R (f x)) f xs (pairs_head R (f x) (map f xs) h))
    (pairs_unmap R f xs (pairs_tail R (f x) (map f xs) h))
  where
    all_unmap : {X Y : Type 0} (P : Y → Type 0) (f : X → Y) (xs : List X) → All P (map f xs) → All (λ a. P (f a)) xs
    all_unmap P f [] all = All-nil (λ a. P (f a))
    all_unmap P f (x ∷ xs) all =
        All-cons (λ a. P (f a)) x xs (All-head P (f x) (map f xs) all) (all_unmap P f xs (All-tail P (f x) (map f xs) all))

pub all_to : {X : Type 0} (P Q : X → Type 0) (xs : List X) → ((x : X) → P x → Q x) → All P xs → All Q xs
all_to P Q xs to all k d within = to _ (all k d within)

-- the same elements in order
pub record IsSortedForm {X : Type 0} (R : X → X → Type 0) (xs : List X) (ys : List X) : Type 0 where
  pub moved : IsPermutation xs ys
  pub ordered : AllPairs R ys

module _ {X : Type 0} (R : X → X → Type 0) (follows : (a b c : X) → R a b → R b c → R a c) where
  abbrev IsEither : X → X → Type 0
  IsEither a b = R a b ⊎ R b a

  -- one more element at its place
  inserted : (x : X) (ys : List X) → AllPairs R ys → All (IsEither x) ys → (zs : List X) × IsSortedForm R (x ∷ ys) zs
  inserted x [] ordered each =
      (x ∷ [], record { moved = IsPermutation-refl (x ∷ []); ordered = AllPairs-cons R x [] (All-nil (R x)) ordered })
  inserted x (y ∷ ys) ordered each =
      by (All-head (IsEither x) y ys each) (inserted x ys (pairs_tail R y ys ordered) (All-tail (IsEither x) y ys each))
    where
      by : IsEither x y → (zs : List X) × IsSortedForm R (x ∷ ys) zs → (zs : List X) × IsSortedForm R (x ∷ y ∷ ys) zs
      by (inl before) rest =
          let behind = all_to (R y) (R x) ys (λ z h. follows x y z before h) (pairs_head R y ys ordered) in (
            x ∷ y ∷ ys,
            record {
              moved = IsPermutation-refl (x ∷ y ∷ ys);
              ordered = AllPairs-cons R x (y ∷ ys) (All-cons (R x) y ys before behind) ordered;
            },
          )
      by (inr after) (zs, is) =
          let behind = All-permutation (R y) (x ∷ ys) zs is.moved (All-cons (R y) x ys after (pairs_head R y ys ordered)) in
          let exchanged = IsPermutation-middle (x ∷ []) y ys in
          let rest_moved = IsPermutation-cons y (x ∷ ys) zs is.moved in (
            y ∷ zs,
            record {
              moved = IsPermutation-trans (x ∷ y ∷ ys) (y ∷ x ∷ ys) (y ∷ zs) exchanged rest_moved;
              ordered = AllPairs-cons R y zs behind is.ordered;
            },
          )

  pub sorted : (xs : List X) → AllPairs (λ a b. R a b ⊎ R b a) xs → (ys : List X) × IsSortedForm R xs ys
  sorted [] h = ([], record { moved = IsPermutation-refl []; ordered = pairs_nil R })
  sorted (x ∷ xs) h =
      let rest = sorted xs (pairs_tail IsEither x xs h) in
      let each = All-permutation (IsEither x) xs rest.0 rest.1.moved (pairs_head IsEither x xs h) in
      let whole = inserted x rest.0 rest.1.ordered each in (
        whole.0,
        record {
          moved = IsPermutation-trans (x ∷ xs) (x ∷ rest.0) whole.0 (IsPermutation-cons x xs rest.0 rest.1.moved) whole.1.moved;
          ordered = whole.1.ordered;
        },
      )
