-- the first element outside a range, and the first pair of places that a relation holds of, or none
use Rattle.std.proofs.Common.{◌≡◌, ◌≢◌, ℕ, zero, suc, ◌+◌, ◌<◌, ◌⊎◌, inl, inr, List, [], ◌∷◌, length, take, slice_get, arith, refl, sym, subst}
use Rattle.std.specs.Prelude.{All, AllPairs, IsSomeAnd}
use Rattle.std.proofs.lemmas.Bool.{cases_eq}
use Rattle.std.proofs.lemmas.List.{get_or_default}
use Rattle.std.proofs.lemmas.List.Elements.{All-nil, All-cons, All-head, All-tail}
use Rattle.sidb_layout.specs.declared.site.Site.{Site}
use Rattle.sidb_layout.specs.declared.site.Fix.{Fix}
use Rattle.sidb_layout.specs.Site.{IsInRange, IsFixInRange, place_at, origin}
use Rattle.sidb_layout.specs.Refusal.{IsFirstOutside, IsFirstOutOfRange, IsEarliest, IsFirstPair, ArePlacesInRange}
use Rattle.layout_laws.proofs.Decisions.{Decided, in_range, fix_in_range}

-- P holds of k, and Q of all below
record IsLeastWith (P Q : ℕ → Type 0) (k : ℕ) : Type 0 where
  here : P k
  before : (m : ℕ) → m < k → Q m

least_below : (P Q : ℕ → Type 0) → ((k : ℕ) → P k ⊎ Q k) → (n : ℕ) → ((k : ℕ) × (k < n) × IsLeastWith P Q k) ⊎ ((k : ℕ) → k < n → Q k)
least_below P Q each zero = inr (λ k l. absurd (omega (arith, l)))
least_below P Q each (suc n) = by (least_below P Q each n) (each n)
  where
    below : Q n → ((k : ℕ) → k < n → Q k) → (k : ℕ) → k < suc n → (k ≡ n) ⊎ (k ≢ n) → Q k
    below q none k l (inl e) = subst Q (sym e) q
    below q none k l (inr ne) = none k (omega (arith, l, ne))

    by : ((k : ℕ) × (k < n) × IsLeastWith P Q k) ⊎ ((k : ℕ) → k < n → Q k) → P n ⊎ Q n
        → ((k : ℕ) × (k < suc n) × IsLeastWith P Q k) ⊎ ((k : ℕ) → k < suc n → Q k)
    by (inl (k, l, is)) here = inl (k, omega (arith, l), is)
    by (inr none) (inl p) = inl (n, omega arith, record { here = p; before = none })
    by (inr none) (inr q) = inr (λ k l. below q none k l (cases_eq k n))

-- place j is related to no earlier one
abbrev NoneEarlier : (Site → Site → Type 0) → List Site → ℕ → Type 0
NoneEarlier R places j = (k : ℕ) → k < j → ¬ R (place_at places k) (place_at places j)

earliest_or_none : (R : Site → Site → Type 0) → ((a b : Site) → Decided (R a b)) → (places : List Site) (j : ℕ)
    → ((i : ℕ) × IsEarliest R places i j) ⊎ NoneEarlier R places j
earliest_or_none R decided places j = by (least_below related (λ k. ¬ related k) (λ k. decided _ _) j)
  where
    related : ℕ → Type 0
    related k = R (place_at places k) (place_at places j)

    by : ((k : ℕ) × (k < j) × IsLeastWith related (λ k. ¬ related k) k) ⊎ ((k : ℕ) → k < j → ¬ related k)
        → ((i : ℕ) × IsEarliest R places i j) ⊎ NoneEarlier R places j
    by (inl (i, l, is)) = inl (i, record { before = l; related = is.here; earliest = is.before })
    by (inr none) = inr none

pub first_pair_or_none : (R : Site → Site → Type 0) → ((a b : Site) → Decided (R a b)) → (places : List Site)
    → ((i j : ℕ) × IsFirstPair R places i j) ⊎ AllPairs (λ a b. ¬ R a b) places
first_pair_or_none R decided places = by (least_below found (NoneEarlier R places) (earliest_or_none R decided places) (length places))
  where
    found : ℕ → Type 0
    found j = (i : ℕ) × IsEarliest R places i j

    by : ((j : ℕ) × (j < length places) × IsLeastWith found (NoneEarlier R places) j) ⊎ ((j : ℕ) → j < length places → NoneEarlier R places j)
        → ((i j : ℕ) × IsFirstPair R places i j) ⊎ AllPairs (λ a b. ¬ R a b) places
    by (inl (j, l, is)) = inl (
      is.here.0,
      j,
      record {
        within = l;
        earliest = is.here.1;
        first = λ k m k_before m_before. is.before m m_before k k_before;
      },
    )
    by (inr none) = inr (λ i j d before within related.
        let same_i = get_or_default places i d origin (omega (arith, before, within)) in
        let same_j = get_or_default places j d origin within in
        none j within i before (rw (same_i, same_j) at related))

first_outside_or_all : {X : Type 0} (P : X → Type 0) → ((x : X) → Decided (P x)) → (xs : List X) → ((i : ℕ) × IsFirstOutside P xs i) ⊎ All P xs
first_outside_or_all P decided [] = inr (All-nil P)
first_outside_or_all P decided (x ∷ xs) = by (decided x) (first_outside_or_all P decided xs)
  where
    by : Decided (P x) → ((i : ℕ) × IsFirstOutside P xs i) ⊎ All P xs → ((i : ℕ) × IsFirstOutside P (x ∷ xs) i) ⊎ All P (x ∷ xs)
    by (inr never) rest = inl (zero, record { before = All-nil P; outside = never })
    by (inl here) (inl (i, f)) = inl (suc i, record { before = All-cons P x (take i xs) here f.before; outside = f.outside })
    by (inl here) (inr all) = inr (All-cons P x xs here all)

pub first_out_or_in_range : (sites : List Site) (fixes : List Fix) → ((i : ℕ) × IsFirstOutOfRange sites fixes i) ⊎ ArePlacesInRange sites fixes
first_out_or_in_range sites fixes = by (first_outside_or_all IsInRange in_range sites) (first_outside_or_all IsFixInRange fix_in_range fixes)
  where
    by : ((i : ℕ) × IsFirstOutside IsInRange sites i) ⊎ All IsInRange sites → ((a : ℕ) × IsFirstOutside IsFixInRange fixes a) ⊎ All IsFixInRange fixes
        → ((i : ℕ) × IsFirstOutOfRange sites fixes i) ⊎ ArePlacesInRange sites fixes
    by (inl (i, f)) rest = inl (i, inl f)
    by (inr all) (inl (a, f)) = inl (length sites + a, inr (a, refl, all, f))
    by (inr all) (inr all_fixes) = inr (record { all_sites = all; all_fixes = all_fixes })

-- nothing outside where all are inside
pub none_outside : {X : Type 0} (P : X → Type 0) (xs : List X) (i : ℕ) → All P xs → IsSomeAnd (slice_get xs i) (λ x. ¬ P x) → ⊥
none_outside P [] i all h = h
none_outside P (x ∷ xs) zero all h = h (All-head P x xs all)
none_outside P (x ∷ xs) (suc i) all h = none_outside P xs i (All-tail P x xs all) h
