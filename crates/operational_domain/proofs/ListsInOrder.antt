-- there is one list whose element k is what place k asks for, where there is one such element
use Rattle.std.proofs.Common.{◌≡◌, ◌∙◌, sym, ap, refl, subst, ℕ, zero, suc, ◌+◌, ◌<◌, List, [], ◌∷◌, ◌++◌, length, slice_index_or, arith}
use Rattle.std.proofs.lemmas.List.{ext_get_or, get_or_default, length-append}
use Rattle.operational_domain.proofs.InOrder.{AreThere, more_there}

pub same_lists : {X : Type 0} (P : ℕ → X → Type 0) → ((k : ℕ) (x y : X) → P k x → P k y → x ≡ y)
    → (n : ℕ) (xs ys : List X) → length xs ≡ n → length ys ≡ n → AreThere P n xs → AreThere P n ys → xs ≡ ys
same_lists P one n [] [] a b there also = refl
same_lists P one n [] (y ∷ ys) a b there also = absurd (omega (arith, a, b))
same_lists P one n (x ∷ xs) [] a b there also = absurd (omega (arith, a, b))
same_lists P one n (x ∷ xs) (y ∷ ys) a b there also = ext_get_or x (x ∷ xs) (y ∷ ys) (a ∙ sym b) (λ k lt. at k (subst (λ m. k < m) a lt))
  where
    at : (k : ℕ) → k < n → slice_index_or (x ∷ xs) k x ≡ slice_index_or (y ∷ ys) k x
    at k lt =
        let h = there k lt in
        let g = also k lt in
        let first = get_or_default (x ∷ xs) k x h.0 (subst (λ m. k < m) (sym a) lt) in
        let second = get_or_default (y ∷ ys) k x g.0 (subst (λ m. k < m) (sym b) lt) in
        first ∙ h.1 ∙ one k h.0 g.0 h.2 g.2 ∙ sym (second ∙ g.1)

pub some_list : {X : Type 0} (P : ℕ → X → Type 0) (n : ℕ) → ((k : ℕ) → k < n → (x : X) × P k x)
    → (xs : List X) × (length xs ≡ n) × AreThere P n xs
some_list P zero each = ([], refl, λ k lt. absurd (omega (arith, lt)))
some_list P (suc n) each =
    let before = some_list P n (λ k lt. each k (omega (arith, lt))) in
    let last = each n (omega arith) in
    let next : n + 1 ≡ suc n = omega arith in (
      before.0 ++ last.0 ∷ [],
      length-append before.0 (last.0 ∷ []) ∙ ap (λ m. m + 1) before.1 ∙ next,
      subst (λ m. AreThere P m (before.0 ++ last.0 ∷ [])) next (more_there P n before.0 last.0 before.1 before.2 last.1),
    )
