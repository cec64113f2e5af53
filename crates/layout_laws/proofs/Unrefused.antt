-- places and fixed charges that make a layout have no refusal
use Rattle.std.proofs.Common.{◌≡◌, ◌≢◌, ◌∙◌, sym, subst, refl, ℕ, suc, ◌<◌, Bool, true, false, inl, inr, List, [], ◌∷◌, ◌++◌, length, get_or, arith}
use Rattle.std.specs.Prelude.{Contains, IsPermutation}
use Rattle.std.specs.Bool.{Decides}
use Rattle.std.proofs.lemmas.Bool.{false≢true}
use Rattle.std.proofs.lemmas.Int.{ints}
use Rattle.std.proofs.lemmas.List.{get_or_default}
use Rattle.std.proofs.lemmas.List.Elements.{All-append}
use Rattle.std.proofs.lemmas.List.Kept.{AllPairs-cons}
use Rattle.std.proofs.lemmas.List.Sorted.{IsPermutation-sym, IsPermutation-map, IsPermutation-append, length_permutation, All-permutation, Contains-permutation}
use Rattle.std.proofs.lemmas.Map.Keys.{IsDistinct-IsPermutation}
use Rattle.std.proofs.lemmas.Map.Made.{AllPairs-from_IsDistinct, IsDistinct-from_AllPairs}
use Rattle.sidb_layout.specs.declared.site.Site.{Site}
use Rattle.sidb_layout.specs.declared.site.Fix.{Fix}
use Rattle.sidb_layout.specs.declared.lattice.Lattice.{Lattice}
use Rattle.sidb_layout.specs.declared.fault.LayoutFault.{LayoutFault}
use Rattle.sidb_layout.specs.declared.fault.LayoutFault.TheVariants.{OutOfRange, TooMany, TooManyFixes, Duplicate, TooClose, Memory}
use Rattle.sidb_layout.specs.Site.{IsInRange, IsFixInRange, IsRowBefore, IsInRowOrder, places_of, places_of_fixes, origin}
use Rattle.sidb_layout.specs.Layout.{Arrangement, IsLayout}
use Rattle.sidb_layout.specs.Refusal.{IsFirstPair, IsTooClose, AreDistinct, IsLayoutRefusal, IsMadeOf}
use Rattle.layout_laws.proofs.Decisions.{Decided, same}
use Rattle.layout_laws.proofs.Sorting.{pairs_head, pairs_tail}
use Rattle.layout_laws.proofs.Searches.{none_outside}

-- whether two places are the same, as a test
abbrev test_of : {P : Type 0} → Decided P → Bool
test_of (inl p) = true
test_of (inr never) = false

abbrev is_same : Site → Site → Bool
is_same a b = test_of (same a b)

test_decides : (P : Type 0) (d : Decided P) → Decides (test_of d) P
test_decides P (inl p) = (λ e. p, λ q. refl)
test_decides P (inr never) = (λ e. absurd (false≢true e), λ q. absurd (never q))

same_decides : (a b : Site) → Decides (is_same a b) (a ≡ b)
same_decides a b = test_decides (a ≡ b) (same a b)

same_turned : (a b : Site) → is_same a b ≡ is_same b a
same_turned a b = by (same a b) (same b a)
  where
    by : (d : Decided (a ≡ b)) (e : Decided (b ≡ a)) → test_of d ≡ test_of e
    by (inl p) (inl q) = refl
    by (inl p) (inr never) = absurd (never (sym p))
    by (inr never) (inl q) = absurd (never (sym q))
    by (inr never) (inr none) = refl

-- moved places are distinct where the given ones are
distinct_moved : (xs ys : List Site) → IsPermutation xs ys → AreDistinct xs → AreDistinct ys
distinct_moved xs ys moved distinct =
    AllPairs-from_IsDistinct same_decides ys
    (IsDistinct-IsPermutation is_same same_turned xs ys moved (IsDistinct-from_AllPairs same_decides xs distinct))

-- a place does not stand before itself
not_before_itself : (a b : Site) → IsRowBefore a b → a ≢ b
not_before_itself a b before e = by (subst (λ s. IsRowBefore a s) (sym e) before)
  where
    by : IsRowBefore a a → ⊥
    by (inl h) = omega (arith, ints, h)
    by (inr (m, inl h)) = omega (arith, ints, h)
    by (inr (m, inr (l, h))) = omega (arith, ints, h)

distinct_in_order : (xs : List Site) → IsInRowOrder xs → AreDistinct xs
distinct_in_order xs ordered i j d before within = not_before_itself _ _ (ordered i j d before within)

distinct_both : (xs ys : List Site) → AreDistinct xs → AreDistinct ys → ((s : Site) → Contains xs s → Contains ys s → ⊥) → AreDistinct (xs ++ ys)
distinct_both [] ys first second apart = second
distinct_both (x ∷ xs) ys first second apart =
    AllPairs-cons (λ a b. a ≢ b) x (xs ++ ys)
    (All-append (λ b. x ≢ b) xs ys (pairs_head (λ a b. a ≢ b) x xs first) (λ k d within e. apart x (0, omega arith, refl) (k, within, get_or_default ys k x d within ∙ sym e)))
    (distinct_both xs ys (pairs_tail (λ a b. a ≢ b) x xs first) second (λ s (k, within, at) c. apart s (suc k, omega (arith, within), at) c))

-- the places of a layout are distinct
distinct_layout : (p : Arrangement) → IsLayout p → AreDistinct (places_of p.sites p.fixes)
distinct_layout p layout =
    distinct_both p.sites (places_of_fixes p.fixes) (distinct_in_order p.sites layout.sites_in_order)
    (distinct_in_order (places_of_fixes p.fixes) layout.fixes_in_order) layout.no_fix_on_a_site

module _ (v : Lattice) (sites : List Site) (fixes : List Fix) (p : Arrangement) (made : IsMadeOf v sites fixes p) where
  places_moved : IsPermutation (places_of sites fixes) (places_of p.sites p.fixes)
  places_moved =
      IsPermutation-append sites p.sites (places_of_fixes fixes) (places_of_fixes p.fixes) made.same_sites
      (IsPermutation-map (λ (f : Fix). f.site) fixes p.fixes made.same_fixes)

  distinct : AreDistinct (places_of sites fixes)
  distinct =
      distinct_moved (places_of p.sites p.fixes) (places_of sites fixes)
      (IsPermutation-sym (places_of sites fixes) (places_of p.sites p.fixes) places_moved) (distinct_layout p made.layout)

  kept : (i : ℕ) → i < length (places_of sites fixes) → Contains (places_of p.sites p.fixes) (get_or (places_of sites fixes) i origin)
  kept i within =
      Contains-permutation (places_of sites fixes) (places_of p.sites p.fixes) _ places_moved
      (i, within, get_or_default (places_of sites fixes) i _ origin within)

  never_close : (i j : ℕ) → IsFirstPair (IsTooClose v) (places_of sites fixes) i j → ⊥
  never_close i j f =
      let i_within : i < length (places_of sites fixes) = omega (arith, f.earliest.before, f.within) in
      let far = made.layout.apart _ _ (kept i i_within) (kept j f.within) (distinct i j origin f.earliest.before f.within) in
      let far_on_v = rw made.on_lattice at far in omega (arith, far_on_v, f.earliest.related)

  pub not_refused : (f : LayoutFault) → IsLayoutRefusal v sites fixes f → ⊥
  not_refused (OutOfRange i) (inl f) =
      none_outside IsInRange sites i
      (All-permutation IsInRange p.sites sites (IsPermutation-sym sites p.sites made.same_sites) made.layout.sites_in_range) f.outside
  not_refused (OutOfRange i) (inr (a, e, all, f)) =
      none_outside IsFixInRange fixes a
      (All-permutation IsFixInRange p.fixes fixes (IsPermutation-sym fixes p.fixes made.same_fixes) made.layout.fixes_in_range) f.outside
  not_refused TooMany h = omega (arith, h.1, length_permutation sites p.sites made.same_sites, made.layout.few_sites)
  not_refused TooManyFixes h = omega (arith, h.2, length_permutation fixes p.fixes made.same_fixes, made.layout.few_fixes)
  not_refused (Duplicate i j) h = distinct i j origin h.1.earliest.before h.1.within h.1.earliest.related
  not_refused (TooClose i j) h = never_close i j h.2
  not_refused Memory h = h
