-- the list of squared distances of a layout, and its classes, are one alone
use Rattle.std.proofs.Common.{◌≡◌, ◌≢◌, ◌↔◌, ℕ, zero, suc, ◌+◌, ◌-◌, ◌*◌, ◌<◌, ◌⊎◌, inl, inr, List, [], ◌∷◌, length, get_or, slice_get, slice_index, Some, arith, refl, sym, ap, subst, ◌∙◌}
use Rattle.std.specs.Prelude.{AllPairs, Contains}
use Rattle.std.proofs.lemmas.Bool.{cases_order}
use Rattle.std.proofs.lemmas.List.Elements.{All-contains}
use Rattle.std.proofs.lemmas.List.Kept.{AllPairs-from_increasing}
use Rattle.std.proofs.lemmas.Option.{slice_get_within, get_or_from_slice_get}
use Rattle.charge_model.specs.Problem.{pairs_before}
use Rattle.sidb_layout.specs.Layout.{Arrangement}
use Rattle.sidb_lattice.specs.Classes.{Classing, IsClassing, AreClasses, IsBetween, class_between, class_near, pair_distance, near_distance}
use Rattle.charge_model.proofs.Pairs.{place_in_order}
use Rattle.sidb_lattice.proofs.SamePlaces.{same_pairs, same_near}

pub equal_classes : (c : Classing) (k m d e : ℕ) → IsClassing c → slice_get c.distances k ≡ Some d
    → slice_get c.distances m ≡ Some e → ((k ≡ m) ↔ (d ≡ e))
equal_classes c k m d e h at_k at_m = (there, back)
  where
    read_k : get_or c.distances k 0 ≡ d
    read_k = get_or_from_slice_get c.distances k d 0 at_k

    read_m : get_or c.distances m 0 ≡ e
    read_m = get_or_from_slice_get c.distances m e 0 at_m

    there : k ≡ m → d ≡ e
    there same = sym read_k ∙ (ap (λ (i : ℕ). get_or c.distances i 0) same ∙ read_m)

    by : d ≡ e → (k ≡ m) ⊎ ((k < m) ⊎ (m < k)) → k ≡ m
    by same (inl f) = f
    by same (inr (inl l)) =
        let less = AllPairs-from_increasing c.distances h.rising k m 0 l (slice_get_within c.distances m e at_m) in
        absurd (omega (arith, less, read_k, read_m, same))
    by same (inr (inr l)) =
        let less = AllPairs-from_increasing c.distances h.rising m k 0 l (slice_get_within c.distances k d at_k) in
        absurd (omega (arith, less, read_k, read_m, same))

    back : d ≡ e → k ≡ m
    back same = by same (cases_order k m)

-- rising lists with the same numbers are equal
below_head : (x : ℕ) (xs : List ℕ) (s : ℕ) → AllPairs (λ a b. a < b) (x ∷ xs) → Contains xs s → x < s
below_head x xs s h (k, within, at) = let less = h zero (suc k) s (omega arith) (omega arith) in omega (arith, less, at)

tail_rises : (x : ℕ) (xs : List ℕ) → AllPairs (λ a b. a < b) (x ∷ xs) → AllPairs (λ a b. a < b) xs
tail_rises x xs h i j d before within = h (suc i) (suc j) d (omega arith) (omega arith)

first_or_rest : (x : ℕ) (xs : List ℕ) (s : ℕ) → Contains (x ∷ xs) s → (x ≡ s) ⊎ Contains xs s
first_or_rest x xs s (zero, within, at) = inl at
first_or_rest x xs s (suc k, within, at) = inr (k, omega arith, at)

in_rest : (x : ℕ) (xs : List ℕ) (s : ℕ) → Contains xs s → Contains (x ∷ xs) s
in_rest x xs s (k, within, at) = (suc k, omega arith, at)

in_front : (x : ℕ) (xs : List ℕ) → Contains (x ∷ xs) x
in_front x xs = (zero, omega arith, refl)

same_heads : (x y : ℕ) (xs ys : List ℕ) → AllPairs (λ a b. a < b) (x ∷ xs) → AllPairs (λ a b. a < b) (y ∷ ys)
    → (y ≡ x) ⊎ Contains ys x → (x ≡ y) ⊎ Contains xs y → x ≡ y
same_heads x y xs ys hx hy (inl e) k = sym e
same_heads x y xs ys hx hy (inr c) (inl e) = e
same_heads x y xs ys hx hy (inr c) (inr d) = absurd (omega (arith, below_head x xs y hx d, below_head y ys x hy c))

still_there : (x y : ℕ) (xs ys : List ℕ) (s : ℕ) → AllPairs (λ a b. a < b) (x ∷ xs) → x ≡ y → Contains xs s
    → (y ≡ s) ⊎ Contains ys s → Contains ys s
still_there x y xs ys s h e c (inr d) = d
still_there x y xs ys s h e c (inl f) = absurd (omega (arith, below_head x xs s h c, e, f))

same_numbers : (xs ys : List ℕ) → AllPairs (λ a b. a < b) xs → AllPairs (λ a b. a < b) ys → ((s : ℕ) → Contains xs s → Contains ys s)
    → ((s : ℕ) → Contains ys s → Contains xs s) → xs ≡ ys
same_numbers [] [] hx hy to from = refl
same_numbers [] (y ∷ ys) hx hy to from = let c = from y (in_front y ys) in absurd (omega (arith, c.1))
same_numbers (x ∷ xs) [] hx hy to from = let c = to x (in_front x xs) in absurd (omega (arith, c.1))
same_numbers (x ∷ xs) (y ∷ ys) hx hy to from =
    let e : x ≡ y = same_heads x y xs ys hx hy (first_or_rest y ys x (to x (in_front x xs))) (first_or_rest x xs y (from y (in_front y ys))) in
    let rest = same_numbers xs ys (tail_rises x xs hx) (tail_rises y ys hy)
    (λ s c. still_there x y xs ys s hx e c (first_or_rest y ys s (to s (in_rest x xs s c))))
    (λ s c. still_there y x ys xs s hy (sym e) c (first_or_rest x xs s (from s (in_rest y ys s c)))) in
    rw (e, rest) refl

-- a squared distance of the layout is in the list of its classes
in_list : (p : Arrangement) (c : Classing) (d : ℕ) → AreClasses p c → IsBetween p d → Contains c.distances d
in_list p c d h (inl (i, j, order, within, is)) =
    let at = h.pairs i j (omega arith) (omega arith) within in
    let class = class_between c i j in
    (class, slice_get_within c.distances class (pair_distance p i j) at, get_or_from_slice_get c.distances class (pair_distance p i j) d at ∙ sym is)
in_list p c d h (inr (i, a, i_within, a_within, is)) =
    let at = h.nears i a i_within a_within in
    let class = class_near c i a in
    (class, slice_get_within c.distances class (near_distance p i a) at, get_or_from_slice_get c.distances class (near_distance p i a) d at ∙ sym is)

pub one_list : (p : Arrangement) (c e : Classing) → AreClasses p c → AreClasses p e → c.distances ≡ e.distances
one_list p c e h k =
    same_numbers c.distances e.distances (AllPairs-from_increasing c.distances h.whole.rising) (AllPairs-from_increasing e.distances k.whole.rising)
    (λ d at. in_list p e d k (All-contains (IsBetween p) c.distances d h.used at))
    (λ d at. in_list p c d h (All-contains (IsBetween p) e.distances d k.used at))

-- in one list of distances two places with the same distance are equal
same_place : (c e : Classing) (k m d : ℕ) → IsClassing c → c.distances ≡ e.distances → slice_get c.distances k ≡ Some d → slice_get e.distances m ≡ Some d → k ≡ m
same_place c e k m d is same at_k at_m = (equal_classes c k m d d is at_k (subst (λ ds. slice_get ds m ≡ Some d) (sym same) at_m)).1 refl

in_order : (c : Classing) (i j : ℕ) → i < j → class_between c i j ≡ slice_index c.pair_classes (pairs_before c.sites i + (j - suc i))
unfolding class_between
in_order c i j h = ap (λ k. slice_index c.pair_classes k) (sym (place_in_order c.sites i j h))

by_site : (c : Classing) (i a : ℕ) → class_near c i a ≡ slice_index c.near_classes (i * c.fixes + a)
unfolding class_near
by_site c i a = refl

rebuilt : (c e : Classing) → c.sites ≡ e.sites → c.fixes ≡ e.fixes → c.distances ≡ e.distances → c.pair_classes ≡ e.pair_classes → c.near_classes ≡ e.near_classes → c ≡ e
rebuilt c e sites fixes distances pairs nears =
    ap (λ x. record c { sites = x }) sites
    ∙ ap (λ x. record c { sites = e.sites; fixes = x }) fixes
    ∙ ap (λ x. record e { distances = x; pair_classes = c.pair_classes; near_classes = c.near_classes }) distances
    ∙ ap (λ x. record e { pair_classes = x; near_classes = c.near_classes }) pairs
    ∙ ap (λ x. record e { near_classes = x }) nears

-- a layout has one list of classes
pub one_classing : (p : Arrangement) (c e : Classing) → AreClasses p c → AreClasses p e → c ≡ e
one_classing p c e h k =
    let sites : c.sites ≡ e.sites = h.sites ∙ sym k.sites in
    let fixes : c.fixes ≡ e.fixes = h.fixes ∙ sym k.fixes in
    let distances = one_list p c e h k in
    let pairs = same_pairs c.sites c.pair_classes e.pair_classes h.whole.class_per_pair (k.whole.class_per_pair ∙ ap (λ n. pairs_before n n) (sym sites)) (λ i j order within.
    let distinct : i ≢ j = omega (arith, order) in
    let first : i < length p.sites = omega (arith, order, within, h.sites) in
    let second : j < length p.sites = omega (arith, within, h.sites) in
    sym (in_order c i j order)
    ∙ same_place c e (class_between c i j) (class_between e i j) (pair_distance p i j) h.whole distances (h.pairs i j distinct first second) (k.pairs i j distinct first second)
    ∙ in_order e i j order
    ∙ ap (λ n. slice_index e.pair_classes (pairs_before n i + (j - suc i))) (sym sites)) in
    let nears = same_near c.sites c.fixes c.near_classes e.near_classes h.whole.class_per_near (k.whole.class_per_near ∙ ap (λ n. n * e.fixes) (sym sites) ∙ ap (λ f. c.sites * f) (sym fixes)) (λ i a site fix.
    let first : i < length p.sites = omega (arith, site, h.sites) in
    let second : a < length p.fixes = omega (arith, fix, h.fixes) in
    sym (by_site c i a)
    ∙ same_place c e (class_near c i a) (class_near e i a) (near_distance p i a) h.whole distances (h.nears i a first second) (k.nears i a first second)
    ∙ by_site e i a
    ∙ ap (λ f. slice_index e.near_classes (i * f + a)) (sym fixes)) in
    rebuilt c e sites fixes distances pairs nears
