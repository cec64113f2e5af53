-- what a list keeps when its elements are moved
use Rattle.std.proofs.Common.{◌≡◌, ◌≢◌, ℕ, ◌<◌, ◌⊎◌, inl, inr, List, length, get_or, arith, refl, sym, ◌∙◌}
use Rattle.std.specs.Prelude.{AllPairs, IsPermutation}
use Rattle.std.specs.List.{swap}
use Rattle.std.proofs.lemmas.Bool.{cases_eq, cases_order}
use Rattle.std.proofs.lemmas.List.{get_or_default}
use Rattle.std.proofs.lemmas.List.Edits.{swapped_from_swap, length-swap}
use Rattle.std.proofs.lemmas.List.Sorted.{IsPermutation-keeps}

-- where the element at i of a list with a and b swapped stood before
abbrev ComesFrom : ℕ → ℕ → ℕ → ℕ → Type 0
ComesFrom a b i k = ((i ≡ a) × (k ≡ b)) ⊎ (((i ≡ b) × (k ≡ a)) ⊎ ((i ≢ a) × (i ≢ b) × (k ≡ i)))

comes_apart : (a b i j k m : ℕ) → ComesFrom a b i k → ComesFrom a b j m → i ≢ j → k ≢ m
comes_apart a b i j k m (inl p) (inl q) ne e = ne (p.0 ∙ sym q.0)
comes_apart a b i j k m (inl p) (inr (inl q)) ne e = omega (arith, p.0, p.1, q.0, q.1)
comes_apart a b i j k m (inl p) (inr (inr q)) ne e = q.1 (sym q.2 ∙ (sym e ∙ p.1))
comes_apart a b i j k m (inr (inl p)) (inl q) ne e = omega (arith, p.0, p.1, q.0, q.1)
comes_apart a b i j k m (inr (inl p)) (inr (inl q)) ne e = ne (p.0 ∙ sym q.0)
comes_apart a b i j k m (inr (inl p)) (inr (inr q)) ne e = q.0 (sym q.2 ∙ (sym e ∙ p.1))
comes_apart a b i j k m (inr (inr p)) (inl q) ne e = p.1 (sym p.2 ∙ (e ∙ q.1))
comes_apart a b i j k m (inr (inr p)) (inr (inl q)) ne e = p.0 (sym p.2 ∙ (e ∙ q.1))
comes_apart a b i j k m (inr (inr p)) (inr (inr q)) ne e = ne (sym p.2 ∙ (e ∙ q.2))

record Came {X : Type 0} (d : X) (xs : List X) (a b i : ℕ) : Type 0 where
  from : ℕ
  within : from < length xs
  is : get_or (swap xs a b) i d ≡ get_or xs from d
  where_from : ComesFrom a b i from

came : {X : Type 0} (d : X) (xs : List X) (a b i : ℕ) → a < length xs → b < length xs → i < length xs → Came d xs a b i
came d xs a b i la lb li = by (cases_eq i a)
  where
    moved : (get_or (swap xs a b) a d ≡ get_or xs b d) × (get_or (swap xs a b) b d ≡ get_or xs a d) × ((m : ℕ) → (m ≡ a → ⊥) → (m ≡ b → ⊥) → get_or (swap xs a b) m d ≡ get_or xs m d)
    moved = swapped_from_swap xs (swap xs a b) a b d la lb refl

    other : i ≢ a → (i ≡ b) ⊎ (i ≢ b) → Came d xs a b i
    other na (inl e) = record { from = a; within = la; is = rw e moved.1; where_from = inr (inl (e, refl)) }
    other na (inr nb) = record { from = i; within = li; is = moved.2 i na nb; where_from = inr (inr (na, nb, refl)) }

    by : (i ≡ a) ⊎ (i ≢ a) → Came d xs a b i
    by (inl e) = record { from = b; within = lb; is = rw e moved.0; where_from = inl (e, refl) }
    by (inr na) = other na (cases_eq i b)

-- elements at different places are different
abbrev IsApart : {X : Type 0} → X → List X → Type 0
IsApart {X} d xs = (i j : ℕ) → i < length xs → j < length xs → i ≢ j → get_or xs i d ≢ get_or xs j d

apart_swapped : {X : Type 0} (d : X) (xs : List X) (a b : ℕ) → a < length xs → b < length xs → IsApart d xs → IsApart d (swap xs a b)
apart_swapped d xs a b la lb apart i j li lj ne same =
    let i_within : i < length xs = omega (arith, length-swap xs a b) in
    let j_within : j < length xs = omega (arith, length-swap xs a b) in
    let ci = came d xs a b i la lb i_within in
    let cj = came d xs a b j la lb j_within in
    apart ci.from cj.from ci.within cj.within (comes_apart a b i j ci.from cj.from ci.where_from cj.where_from ne)
    (sym ci.is ∙ (same ∙ cj.is))

apart_from_pairs : {X : Type 0} (d : X) (xs : List X) → AllPairs (λ a b. a ≢ b) xs → IsApart d xs
apart_from_pairs d xs distinct i j li lj ne same = by (cases_order i j)
  where
    by : (i ≡ j) ⊎ ((i < j) ⊎ (j < i)) → ⊥
    by (inl e) = ne e
    by (inr (inl l)) = distinct i j d l lj same
    by (inr (inr l)) = distinct j i d l li (sym same)

-- a list without two equal elements has none after they are moved
pub distinct_permuted : {X : Type 0} (d : X) (xs ys : List X) → IsPermutation xs ys → AllPairs (λ a b. a ≢ b) xs → AllPairs (λ a b. a ≢ b) ys
distinct_permuted d xs ys moved distinct i j e before within same =
    let i_within : i < length ys = omega arith in
    let apart = IsPermutation-keeps xs (IsApart d) (apart_from_pairs d xs distinct) (λ l a b la lb h. apart_swapped d l a b la lb h) ys moved in
    apart i j i_within within (omega arith)
    (get_or_default ys i d e i_within ∙ (same ∙ get_or_default ys j e d within))
