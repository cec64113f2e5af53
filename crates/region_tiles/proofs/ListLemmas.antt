-- lists beside each other, and lists of lists
use Rattle.std.proofs.Common.{◌≡◌, ◌∙◌, ℕ, zero, suc, ◌+◌, List, [], ◌∷◌, ◌++◌, map, refl, sym, ap₂, subst, arith}
use Rattle.std.specs.Prelude.{All, AllPairs, Contains, sum_by}
use Rattle.std.specs.List.{AllZip}
use Rattle.std.proofs.lemmas.List.Sums.{sum_by-cons}
use Rattle.std.proofs.lemmas.List.Kept.{AllPairs-cons}
use Rattle.std.proofs.lemmas.List.Elements.{All-append, All-cons, All-head, All-nil, All-tail}

-- what holds of each pair beside each other
pub zip_all : {X Y : Type 0} (P : X → Type 0) (R : X → Y → Type 0) (Q : Y → Type 0) → ((x : X) (y : Y) → P x → R x y → Q y) → (xs : List X) (ys : List Y) → All P xs → AllZip R xs ys → All Q ys
zip_all P R Q turn [] [] all zip = All-nil Q
zip_all P R Q turn [] (y ∷ ys) all zip = absurd zip
zip_all P R Q turn (x ∷ xs) [] all zip = absurd zip
zip_all P R Q turn (x ∷ xs) (y ∷ ys) all zip = All-cons Q y ys (turn x y (All-head P x xs all) zip.0) (zip_all P R Q turn xs ys (All-tail P x xs all) zip.1)

pub zip_weaker : {X Y : Type 0} (R S : X → Y → Type 0) → ((x : X) (y : Y) → R x y → S x y) → (xs : List X) (ys : List Y) → AllZip R xs ys → AllZip S xs ys
zip_weaker R S turn [] [] zip = tt
zip_weaker R S turn [] (y ∷ ys) zip = absurd zip
zip_weaker R S turn (x ∷ xs) [] zip = absurd zip
zip_weaker R S turn (x ∷ xs) (y ∷ ys) zip = (turn x y zip.0, zip_weaker R S turn xs ys zip.1)

pub zip_map : {X Y Z : Type 0} (R : X → Y → Type 0) (S : X → Z → Type 0) (f : Y → Z) → ((x : X) (y : Y) → R x y → S x (f y)) → (xs : List X) (ys : List Y) → AllZip R xs ys → AllZip S xs (map f ys)
zip_map R S f turn [] [] zip = tt
zip_map R S f turn [] (y ∷ ys) zip = absurd zip
zip_map R S f turn (x ∷ xs) [] zip = absurd zip
zip_map R S f turn (x ∷ xs) (y ∷ ys) zip = (turn x y zip.0, zip_map R S f turn xs ys zip.1)

-- the item beside another
pub zip_contains : {X Y : Type 0} (R : X → Y → Type 0) (xs : List X) (ys : List Y) (x : X) → AllZip R xs ys → Contains xs x → (y : Y) × Contains ys y × R x y
zip_contains R [] ys x zip (k, within, is) = absurd (omega (arith, within))
zip_contains R (w ∷ xs) [] x zip member = absurd zip
zip_contains R (w ∷ xs) (y ∷ ys) x zip (zero, within, is) = (y, (0, omega arith, refl), subst (λ v. R v y) is zip.0)
zip_contains R (w ∷ xs) (y ∷ ys) x zip (suc k, within, is) =
    let (z, (j, also, at), there) = zip_contains R xs ys x zip.1 (k, omega (arith, within), is) in
    (z, (suc j, omega (arith, also), at), there)

-- pairs of the items beside others
pub zip_pairs : {X Y : Type 0} (P : X → X → Type 0) (R : X → Y → Type 0) (Q : Y → Y → Type 0) → ((x v : X) (y w : Y) → P x v → R x y → R v w → Q y w) → (xs : List X) (ys : List Y) → AllPairs P xs → AllZip R xs ys → AllPairs Q ys
zip_pairs P R Q turn [] [] pairs zip = λ i j d less within. absurd (omega (arith, within))
zip_pairs P R Q turn [] (y ∷ ys) pairs zip = absurd zip
zip_pairs P R Q turn (x ∷ xs) [] pairs zip = absurd zip
zip_pairs P R Q turn (x ∷ xs) (y ∷ ys) pairs zip =
    let first : All (P x) xs = λ k d within. pairs zero (suc k) d (omega arith) (omega (arith, within)) in
    AllPairs-cons Q y ys
    (zip_all (P x) R (Q y) (λ v w apart is. turn x v y w apart zip.0 is) xs ys first zip.1)
    (zip_pairs P R Q turn xs ys (λ i j d less within. pairs (suc i) (suc j) d (omega (arith, less)) (omega (arith, within))) zip.1)

-- sums over items beside others
pub zip_sum : {X Y : Type 0} (f : X → ℕ) (g : Y → ℕ) (R : X → Y → Type 0) → ((x : X) (y : Y) → R x y → g y ≡ f x) → (xs : List X) (ys : List Y) → AllZip R xs ys → sum_by g ys ≡ sum_by f xs
zip_sum f g R same [] [] zip = refl
zip_sum f g R same [] (y ∷ ys) zip = absurd zip
zip_sum f g R same (x ∷ xs) [] zip = absurd zip
zip_sum f g R same (x ∷ xs) (y ∷ ys) zip = sum_by-cons g y ys ∙ ap₂ (λ (m n : ℕ). m + n) (same x y zip.0) (zip_sum f g R same xs ys zip.1) ∙ sym (sum_by-cons f x xs)

-- one list is beside another
pub zip_one : {X Y : Type 0} (R : X → Y → Type 0) → ((x : X) (y z : Y) → R x y → R x z → y ≡ z) → (xs : List X) (ys zs : List Y) → AllZip R xs ys → AllZip R xs zs → ys ≡ zs
zip_one R one [] [] [] a b = refl
zip_one R one [] [] (z ∷ zs) a b = absurd b
zip_one R one [] (y ∷ ys) zs a b = absurd a
zip_one R one (x ∷ xs) [] zs a b = absurd a
zip_one R one (x ∷ xs) (y ∷ ys) [] a b = absurd b
zip_one R one (x ∷ xs) (y ∷ ys) (z ∷ zs) a b = ap₂ (λ (v : _) vs. v ∷ vs) (one x y z a.0 b.0) (zip_one R one xs ys zs a.1 b.1)

-- a list is beside another, where each item has one beside it
pub zip_some : {X Y : Type 0} (P : X → Type 0) (R : X → Y → Type 0) → ((x : X) → P x → (y : Y) × R x y) → (xs : List X) → All P xs → (ys : List Y) × AllZip R xs ys
zip_some P R some [] all = ([], tt)
zip_some P R some (x ∷ xs) all =
    let here = some x (All-head P x xs all) in
    let rest = zip_some P R some xs (All-tail P x xs all) in
    (here.0 ∷ rest.0, (here.1, rest.1))

pub zip_append : {X Y : Type 0} (R : X → Y → Type 0) (xs zs : List X) (ys ws : List Y) → AllZip R xs ys → AllZip R zs ws → AllZip R (xs ++ zs) (ys ++ ws)
zip_append R [] zs [] ws a b = b
zip_append R [] zs (y ∷ ys) ws a b = absurd a
zip_append R (x ∷ xs) zs [] ws a b = absurd a
zip_append R (x ∷ xs) zs (y ∷ ys) ws a b = (a.0, zip_append R xs zs ys ws a.1 b)

-- pairs within two lists, and across them
pub pairs_append : {X : Type 0} (R : X → X → Type 0) (xs ys : List X) → AllPairs R xs → AllPairs R ys → All (λ x. All (R x) ys) xs → AllPairs R (xs ++ ys)
pairs_append R [] ys left right across = right
pairs_append R (x ∷ xs) ys left right across =
    AllPairs-cons R x (xs ++ ys)
    (All-append (R x) xs ys (λ k d within. left zero (suc k) d (omega arith) (omega (arith, within))) (All-head (λ x. All (R x) ys) x xs across))
    (pairs_append R xs ys (λ i j d less within. left (suc i) (suc j) d (omega (arith, less)) (omega (arith, within))) right (All-tail (λ x. All (R x) ys) x xs across))
