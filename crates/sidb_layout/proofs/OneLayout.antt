-- the same places and fixed charges make one layout
use Rattle.std.proofs.Common.{◌≡◌, zero, suc, ◌<◌, ◌⊎◌, inl, inr, List, [], ◌∷◌, length, arith, refl, sym, ap, ◌∙◌, subst}
use Rattle.std.specs.Prelude.{AllPairs, Contains, IsPermutation}
use Rattle.std.proofs.lemmas.Int.{ints}
use Rattle.std.proofs.lemmas.List.{get_or-map, length-map}
use Rattle.std.proofs.lemmas.List.Sorted.{Contains-permutation, IsPermutation-sym}
use Rattle.sidb_layout.specs.declared.site.Site.{Site}
use Rattle.sidb_layout.specs.declared.site.Fix.{Fix}
use Rattle.sidb_layout.specs.declared.lattice.Lattice.{Lattice}
use Rattle.sidb_layout.specs.Site.{IsRowBefore, IsInRowOrder, places_of_fixes}
use Rattle.sidb_layout.specs.Layout.{Arrangement}
use Rattle.sidb_layout.specs.Refusal.{IsMadeOf}

-- no two places stand before each other
not_both : (a b : Site) → IsRowBefore a b → IsRowBefore b a → ⊥
not_both a b (inl h) (inl k) = omega (arith, ints)
not_both a b (inl h) (inr (m, k)) = omega (arith, ints)
not_both a b (inr (m, h)) (inl k) = omega (arith, ints)
not_both a b (inr (m, inl h)) (inr (m', inl k)) = omega (arith, ints)
not_both a b (inr (m, inl h)) (inr (m', inr (l, k))) = omega (arith, ints)
not_both a b (inr (m, inr (l, h))) (inr (m', inl k)) = omega (arith, ints)
not_both a b (inr (m, inr (l, h))) (inr (m', inr (l', k))) = omega (arith, ints)

-- what a list contains is its first element or stands in the rest
pub first_or_rest : {X : Type 0} (x : X) (xs : List X) (s : X) → Contains (x ∷ xs) s → (x ≡ s) ⊎ Contains xs s
first_or_rest x xs s (zero, within, at) = inl at
first_or_rest x xs s (suc k, within, at) = inr (k, omega arith, at)

pub in_rest : {X : Type 0} (x : X) (xs : List X) (s : X) → Contains xs s → Contains (x ∷ xs) s
in_rest x xs s (k, within, at) = (suc k, omega arith, at)

pub in_front : {X : Type 0} (x : X) (xs : List X) → Contains (x ∷ xs) x
in_front x xs = (zero, omega arith, refl)

-- lists in a strict order with the same elements are equal
module _ {X : Type 0} (R : X → X → Type 0) (apart : (a b : X) → R a b → R b a → ⊥) where
  head_before : (x : X) (xs : List X) (s : X) → AllPairs R (x ∷ xs) → Contains xs s → R x s
  head_before x xs s h (k, within, at) = subst (R x) at (h zero (suc k) s (omega arith) (omega arith))

  tail_pairs : (x : X) (xs : List X) → AllPairs R (x ∷ xs) → AllPairs R xs
  tail_pairs x xs h i j d before within = h (suc i) (suc j) d (omega arith) (omega arith)

  same_heads : (x y : X) (xs ys : List X) → AllPairs R (x ∷ xs) → AllPairs R (y ∷ ys)
      → (y ≡ x) ⊎ Contains ys x → (x ≡ y) ⊎ Contains xs y → x ≡ y
  same_heads x y xs ys hx hy (inl e) k = sym e
  same_heads x y xs ys hx hy (inr c) (inl e) = e
  same_heads x y xs ys hx hy (inr c) (inr d) =
      absurd (apart x y (head_before x xs y hx d) (head_before y ys x hy c))

  -- an element of the rest of one list stands in the rest of the other
  still_there : (x y : X) (xs ys : List X) (s : X) → AllPairs R (x ∷ xs) → x ≡ y → Contains xs s
      → (y ≡ s) ⊎ Contains ys s → Contains ys s
  still_there x y xs ys s h e c (inr d) = d
  still_there x y xs ys s h e c (inl f) =
      let itself : R x x = subst (R x) (sym (e ∙ f)) (head_before x xs s h c) in absurd (apart x x itself itself)

  pub same_elements : (xs ys : List X) → AllPairs R xs → AllPairs R ys → ((s : X) → Contains xs s → Contains ys s)
      → ((s : X) → Contains ys s → Contains xs s) → xs ≡ ys
  same_elements [] [] hx hy to from = refl
  same_elements [] (y ∷ ys) hx hy to from = let c = from y (in_front y ys) in absurd (omega (arith, c.1))
  same_elements (x ∷ xs) [] hx hy to from = let c = to x (in_front x xs) in absurd (omega (arith, c.1))
  same_elements (x ∷ xs) (y ∷ ys) hx hy to from =
      let e : x ≡ y = same_heads x y xs ys hx hy (first_or_rest y ys x (to x (in_front x xs))) (first_or_rest x xs y (from y (in_front y ys))) in
      let rest = same_elements xs ys (tail_pairs x xs hx) (tail_pairs y ys hy)
      (λ s c. still_there x y xs ys s hx e c (first_or_rest y ys s (to s (in_rest x xs s c))))
      (λ s c. still_there y x ys xs s hy (sym e) c (first_or_rest x xs s (from s (in_rest y ys s c)))) in
      rw (e, rest) refl

-- the order of fixed charges is that of their places
fixes_in_order : (fixes : List Fix) → IsInRowOrder (places_of_fixes fixes) → AllPairs (λ (f g : Fix). IsRowBefore f.site g.site) fixes
fixes_in_order fixes h i j d before within =
    let i_within : i < length fixes = omega arith in
    let size = length-map fixes (λ (f : Fix). f.site) in
    let at_i = get_or-map (λ (f : Fix). f.site) fixes i d d.site i_within in
    let at_j = get_or-map (λ (f : Fix). f.site) fixes j d d.site within in
    rw (at_i, at_j) at (h i j d.site before (omega (arith, size)))

same_arrangement : (p q : Arrangement) → p.lattice ≡ q.lattice → p.sites ≡ q.sites → p.fixes ≡ q.fixes → p ≡ q
same_arrangement p q lattice sites fixes =
    ap (λ (v : Lattice). let r : Arrangement = record { lattice = v; sites = p.sites; fixes = p.fixes } in r) lattice
    ∙ (ap (λ (ss : List Site). let r : Arrangement = record { lattice = q.lattice; sites = ss; fixes = p.fixes } in r) sites
    ∙ ap (λ (fs : List Fix). let r : Arrangement = record { lattice = q.lattice; sites = q.sites; fixes = fs } in r) fixes)

-- what two permutations of one list contain
carried : {X : Type 0} (xs ys zs : List X) (s : X) → IsPermutation xs ys → IsPermutation xs zs → Contains ys s → Contains zs s
carried xs ys zs s p q c = Contains-permutation xs zs s q (Contains-permutation ys xs s (IsPermutation-sym xs ys p) c)

pub one_layout : (v : Lattice) (sites : List Site) (fixes : List Fix) (p q : Arrangement)
    → IsMadeOf v sites fixes p → IsMadeOf v sites fixes q → p ≡ q
one_layout v sites fixes p q h k =
    same_arrangement p q (h.on_lattice ∙ sym k.on_lattice)
    (same_elements IsRowBefore not_both p.sites q.sites h.layout.sites_in_order k.layout.sites_in_order
    (λ s c. carried sites p.sites q.sites s h.same_sites k.same_sites c)
    (λ s c. carried sites q.sites p.sites s k.same_sites h.same_sites c))
    (same_elements (λ (f g : Fix). IsRowBefore f.site g.site) (λ f g. not_both f.site g.site) p.fixes q.fixes
    (fixes_in_order p.fixes h.layout.fixes_in_order) (fixes_in_order q.fixes k.layout.fixes_in_order)
    (λ s c. carried fixes p.fixes q.fixes s h.same_fixes k.same_fixes c)
    (λ s c. carried fixes q.fixes p.fixes s k.same_fixes h.same_fixes c))
