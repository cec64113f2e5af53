-- what the kept sites of a layout keep
use Rattle.std.proofs.Common.{◌≡◌, ℕ, zero, suc, ◌+◌, ◌<◌, ◌≤◌, Bool, true, false, not, cond, eqb, ◌⊎◌, inl, inr, List, [], ◌∷◌, ◌++◌, length, take, get_or, append-nil, arith, refl, sym, ◌∙◌}
use Rattle.std.specs.Prelude.{All, AllPairs, Contains}
use Rattle.std.specs.List.{list_any}
use Rattle.std.proofs.lemmas.List.Elements.{All-cons, All-head, All-tail, All-contains, All-contains_itself, Contains-append_left, Contains-append_right, Contains-append_cases}
use Rattle.std.proofs.lemmas.List.Kept.{AllPairs-cons}
use Rattle.sidb_layout.specs.declared.site.Site.{Site}
use Rattle.sidb_layout.specs.Site.{IsInRange, IsRowBefore, origin, places_of, places_of_fixes}
use Rattle.sidb_layout.specs.Layout.{Arrangement, IsLayout, arrangement_of}
use Rattle.sidb_layout.specs.Dropping.{kept_from, sites_but}

-- one more site
pub kept_more : (k : ℕ) (gone : List ℕ) (sites : List Site) (i : ℕ) (d : Site) → i < length sites
    → kept_from k gone (take (suc i) sites)
    ≡ kept_from k gone (take i sites) ++ cond (list_any (λ g. eqb g (k + i)) gone) [] (get_or sites i d ∷ [])
kept_more k gone [] i d l = absurd (omega arith)
kept_more k gone (s ∷ sites) zero d l = let same : k + 0 ≡ k = omega arith in rw same (by (list_any (λ g. eqb g k) gone))
  where
    by : (b : Bool) → cond b [] (s ∷ []) ≡ [] ++ cond b [] (s ∷ [])
    by true = refl
    by false = refl
kept_more k gone (s ∷ sites) (suc i) d l =
    let same : (k + 1) + i ≡ k + suc i = omega arith in
    let rest = rw same at (kept_more (k + 1) gone sites i d (omega arith)) in
    rw rest (by (list_any (λ g. eqb g k) gone) (kept_from (k + 1) gone (take i sites)) (cond (list_any (λ g. eqb g (k + suc i)) gone) [] (get_or sites i d ∷ [])))
  where
    by : (b : Bool) (xs ys : List Site) → cond b (xs ++ ys) (s ∷ (xs ++ ys)) ≡ cond b xs (s ∷ xs) ++ ys
    by true xs ys = refl
    by false xs ys = refl

from_not : (b v : Bool) → not b ≡ not v → b ≡ v
from_not true true e = refl
from_not true false e = sym e
from_not false true e = sym e
from_not false false e = refl

-- a loop's step, where the site's place is not gone and where it is
kept_step : (gone : List ℕ) (sites : List Site) (i : ℕ) → i < length sites → sites_but gone (take (i + 1) sites)
    ≡ sites_but gone (take i sites) ++ cond (list_any (λ g. eqb g i) gone) [] (get_or sites i origin ∷ [])
kept_step gone sites i l =
    let next : i + 1 ≡ suc i = omega arith in
    let first : 0 + i ≡ i = omega arith in
    rw next (rw first at (kept_more 0 gone sites i origin l))

pub kept_pushed : (gone : List ℕ) (sites kept now : List Site) (i : ℕ) (stays : Bool) → i < length sites
    → stays ≡ not (list_any (λ g. eqb g i) gone) → stays ≡ true → kept ≡ sites_but gone (take i sites)
    → now ≡ kept ++ get_or sites i origin ∷ [] → now ≡ sites_but gone (take (i + 1) sites)
kept_pushed gone sites kept now i b l is stays before pushed =
    let not_gone : list_any (λ g. eqb g i) gone ≡ false = from_not _ false (sym is ∙ stays) in
    rw (kept_step gone sites i l, not_gone, ← before) pushed

pub kept_passed : (gone : List ℕ) (sites kept : List Site) (i : ℕ) (stays : Bool) → i < length sites
    → stays ≡ not (list_any (λ g. eqb g i) gone) → stays ≡ false → kept ≡ sites_but gone (take i sites)
    → kept ≡ sites_but gone (take (i + 1) sites)
kept_passed gone sites kept i b l is goes before =
    let is_gone : list_any (λ g. eqb g i) gone ≡ true = from_not _ true (sym is ∙ goes) in
    rw (kept_step gone sites i l, is_gone, append-nil) before

length-kept : (k : ℕ) (gone : List ℕ) (sites : List Site) → length (kept_from k gone sites) ≤ length sites
length-kept k gone [] = omega arith
length-kept k gone (s ∷ sites) = by (list_any (λ g. eqb g k) gone) (length-kept (k + 1) gone sites)
  where
    by : (b : Bool) → length (kept_from (k + 1) gone sites) ≤ length sites
        → length (cond b (kept_from (k + 1) gone sites) (s ∷ kept_from (k + 1) gone sites)) ≤ length (s ∷ sites)
    by true h = omega arith
    by false h = omega arith

pub All-kept : (P : Site → Type 0) (k : ℕ) (gone : List ℕ) (sites : List Site) → All P sites → All P (kept_from k gone sites)
All-kept P k gone [] all = all
All-kept P k gone (s ∷ sites) all =
    by (list_any (λ g. eqb g k) gone) (All-kept P (k + 1) gone sites (All-tail P s sites all))
  where
    by : (b : Bool) → All P (kept_from (k + 1) gone sites) → All P (cond b (kept_from (k + 1) gone sites) (s ∷ kept_from (k + 1) gone sites))
    by true h = h
    by false h = All-cons P s (kept_from (k + 1) gone sites) (All-head P s sites all) h

pairs_head : (R : Site → Site → Type 0) (s : Site) (sites : List Site) → AllPairs R (s ∷ sites) → All (R s) sites
pairs_head R s sites h k d within = h 0 (suc k) d (omega arith) (omega arith)

pairs_tail : (R : Site → Site → Type 0) (s : Site) (sites : List Site) → AllPairs R (s ∷ sites) → AllPairs R sites
pairs_tail R s sites h i j d before within = h (suc i) (suc j) d (omega arith) (omega arith)

AllPairs-kept : (R : Site → Site → Type 0) (k : ℕ) (gone : List ℕ) (sites : List Site) → AllPairs R sites → AllPairs R (kept_from k gone sites)
AllPairs-kept R k gone [] all = all
AllPairs-kept R k gone (s ∷ sites) all =
    by (list_any (λ g. eqb g k) gone) (AllPairs-kept R (k + 1) gone sites (pairs_tail R s sites all))
  where
    by : (b : Bool) → AllPairs R (kept_from (k + 1) gone sites) → AllPairs R (cond b (kept_from (k + 1) gone sites) (s ∷ kept_from (k + 1) gone sites))
    by true h = h
    by false h = AllPairs-cons R s (kept_from (k + 1) gone sites) (All-kept (R s) (k + 1) gone sites (pairs_head R s sites all)) h

Contains-kept : (gone : List ℕ) (sites : List Site) (s : Site) → Contains (sites_but gone sites) s → Contains sites s
Contains-kept gone sites s h =
    All-contains (Contains sites) (sites_but gone sites) s (All-kept (Contains sites) 0 gone sites (All-contains_itself sites)) h

-- the kept sites are a layout
pub kept_layout : (p : Arrangement) (gone : List ℕ) → IsLayout p → IsLayout (arrangement_of p.lattice (sites_but gone p.sites) p.fixes)
kept_layout p gone h = record {
  few_sites = omega (arith, length-kept 0 gone p.sites, h.few_sites);
  few_fixes = h.few_fixes;
  sites_in_range = All-kept IsInRange 0 gone p.sites h.sites_in_range;
  fixes_in_range = h.fixes_in_range;
  sites_in_order = AllPairs-kept IsRowBefore 0 gone p.sites h.sites_in_order;
  fixes_in_order = h.fixes_in_order;
  no_fix_on_a_site = λ s c f. h.no_fix_on_a_site s (Contains-kept gone p.sites s c) f;
  apart = λ a b c d ne. h.apart a b (among a c) (among b d) ne;
}
  where
    split : (s : Site) → Contains (sites_but gone p.sites) s ⊎ Contains (places_of_fixes p.fixes) s → Contains (places_of p.sites p.fixes) s
    split s (inl c) = Contains-append_left p.sites (places_of_fixes p.fixes) s (Contains-kept gone p.sites s c)
    split s (inr f) = Contains-append_right p.sites (places_of_fixes p.fixes) s f

    among : (s : Site) → Contains (places_of (sites_but gone p.sites) p.fixes) s → Contains (places_of p.sites p.fixes) s
    among s c = split s (Contains-append_cases (sites_but gone p.sites) (places_of_fixes p.fixes) s c)
