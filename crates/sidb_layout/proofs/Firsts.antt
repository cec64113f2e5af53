-- first elements outside a range and first pairs are unique
use Rattle.std.proofs.Common.{◌≡◌, ℕ, zero, suc, ◌<◌, ◌⊎◌, inl, inr, List, [], ◌∷◌, length, take, slice_get, arith, sym}
use Rattle.std.specs.Prelude.{All, AllPairs, IsSomeAnd}
use Rattle.std.proofs.lemmas.Bool.{cases_order}
use Rattle.std.proofs.lemmas.List.{get_or_default}
use Rattle.std.proofs.lemmas.List.Elements.{All-head, All-tail}
use Rattle.sidb_layout.specs.declared.site.Site.{Site}
use Rattle.sidb_layout.specs.declared.site.Fix.{Fix}
use Rattle.sidb_layout.specs.Site.{IsInRange, IsFixInRange, origin}
use Rattle.sidb_layout.specs.Refusal.{IsFirstOutside, IsFirstOutOfRange, IsFirstPair, ArePlacesInRange, AreDistinct}
use Rattle.sidb_layout.specs.Clash.{HasNoPair}

-- an element below j has P where all below j have it
pub not_outside_below : {X : Type 0} (P : X → Type 0) (xs : List X) (i j : ℕ) → i < j → All P (take j xs)
    → IsSomeAnd (slice_get xs i) (λ x. ¬ P x) → ⊥
not_outside_below P [] i j l all h = h
not_outside_below P (x ∷ xs) i zero l all h = absurd (omega arith)
not_outside_below P (x ∷ xs) zero (suc j) l all h = h (All-head P x (take j xs) all)
not_outside_below P (x ∷ xs) (suc i) (suc j) l all h =
    not_outside_below P xs i j (omega arith) (All-tail P x (take j xs) all) h

pub not_outside : {X : Type 0} (P : X → Type 0) (xs : List X) (i : ℕ) → All P xs
    → IsSomeAnd (slice_get xs i) (λ x. ¬ P x) → ⊥
not_outside P [] i all h = h
not_outside P (x ∷ xs) zero all h = h (All-head P x xs all)
not_outside P (x ∷ xs) (suc i) all h = not_outside P xs i (All-tail P x xs all) h

pub one_first_outside : {X : Type 0} (P : X → Type 0) (xs : List X) (i j : ℕ)
    → IsFirstOutside P xs i → IsFirstOutside P xs j → i ≡ j
one_first_outside P xs i j f g = by (cases_order i j)
  where
    by : (i ≡ j) ⊎ ((i < j) ⊎ (j < i)) → i ≡ j
    by (inl e) = e
    by (inr (inl l)) = absurd (not_outside_below P xs i j l g.before f.outside)
    by (inr (inr l)) = absurd (not_outside_below P xs j i l f.before g.outside)

pub one_out_of_range : (sites : List Site) (fixes : List Fix) (i j : ℕ)
    → IsFirstOutOfRange sites fixes i → IsFirstOutOfRange sites fixes j → i ≡ j
one_out_of_range sites fixes i j (inl f) (inl g) = one_first_outside IsInRange sites i j f g
one_out_of_range sites fixes i j (inl f) (inr (a, e, all, g)) = absurd (not_outside IsInRange sites i all f.outside)
one_out_of_range sites fixes i j (inr (a, e, all, f)) (inl g) = absurd (not_outside IsInRange sites j all g.outside)
one_out_of_range sites fixes i j (inr (a, e, all, f)) (inr (b, e', all', g)) =
    omega (arith, one_first_outside IsFixInRange fixes a b f g)

pub in_range_excludes : (sites : List Site) (fixes : List Fix) (i : ℕ)
    → ArePlacesInRange sites fixes → IsFirstOutOfRange sites fixes i → ⊥
in_range_excludes sites fixes i all (inl f) = not_outside IsInRange sites i all.all_sites f.outside
in_range_excludes sites fixes i all (inr (a, e, sites_in, f)) = not_outside IsFixInRange fixes a all.all_fixes f.outside

-- the first pair is one alone
pub record IsSamePair (i j k m : ℕ) : Type 0 where
  pub earlier : i ≡ k
  pub later : j ≡ m

pub one_first_pair : (R : Site → Site → Type 0) (places : List Site) (i j k m : ℕ)
    → IsFirstPair R places i j → IsFirstPair R places k m → IsSamePair i j k m
one_first_pair R places i j k m f g = by (cases_order j m)
  where
    same : (e : j ≡ m) → i ≡ k
    same e = at (cases_order i k)
      where
        at : (i ≡ k) ⊎ ((i < k) ⊎ (k < i)) → i ≡ k
        at (inl h) = h
        at (inr (inl l)) = absurd (g.earliest.earliest i l (rw e at f.earliest.related))
        at (inr (inr l)) = absurd (f.earliest.earliest k l (rw (sym e) at g.earliest.related))

    by : (j ≡ m) ⊎ ((j < m) ⊎ (m < j)) → IsSamePair i j k m
    by (inl e) = record { earlier = same e; later = e }
    by (inr (inl l)) = absurd (g.first i j f.earliest.before l f.earliest.related)
    by (inr (inr l)) = absurd (f.first k m g.earliest.before l g.earliest.related)

-- a fact of all pairs, at the default that places have and at any other
pub at_each_default : (R : Site → Site → Type 0) (places : List Site) → HasNoPair R places
    → AllPairs (λ a b. ¬ R a b) places
at_each_default R places none i j d before within related =
    let in_range : i < length places = omega arith in
    let same_i = get_or_default places i d origin in_range in
    let same_j = get_or_default places j d origin within in
    none i j before within (rw (same_i, same_j) at related)

pub distinct_excludes : (places : List Site) (i j : ℕ) → AreDistinct places
    → IsFirstPair (λ a b. a ≡ b) places i j → ⊥
distinct_excludes places i j distinct f = distinct i j origin f.earliest.before f.within f.earliest.related

pub no_pair_excludes : (R : Site → Site → Type 0) (places : List Site) (i j : ℕ)
    → HasNoPair R places → IsFirstPair R places i j → ⊥
no_pair_excludes R places i j none f = none i j f.earliest.before f.within f.earliest.related
