-- the sites that stay are those whose places are not gone
use Rattle.std.proofs.Common.{◌≡◌, ◌↔◌, ℕ, zero, suc, ◌+◌, ◌<◌, Bool, true, false, cond, eqb, ◌⊎◌, inl, inr, List, [], ◌∷◌, length, get_or, arith, refl, sym, ◌∙◌}
use Rattle.std.specs.Prelude.{Contains}
use Rattle.std.specs.List.{list_any}
use Rattle.std.proofs.lemmas.Bool.{false≢true, eq-eqb, eqb-true}
use Rattle.std.proofs.lemmas.List.{get_or_default}
use Rattle.std.proofs.lemmas.List.Folds.{Any-from_list_any, list_any_at}
use Rattle.sidb_layout.specs.declared.site.Site.{Site}
use Rattle.sidb_layout.specs.Site.{place_at, origin}
use Rattle.sidb_layout.specs.Dropping.{kept_from, sites_but}
use Rattle.sidb_layout.proofs.OneLayout.{first_or_rest, in_rest}

-- the test of a place, and whether it is gone
named_if_gone : (gone : List ℕ) (k : ℕ) → Contains gone k → list_any (λ g. eqb g k) gone ≡ true
named_if_gone gone k (i, within, at) =
    list_any_at (λ g. eqb g k) gone i k within (eq-eqb _ _ at)

gone_if_named : (gone : List ℕ) (k : ℕ) → list_any (λ g. eqb g k) gone ≡ true → Contains gone k
gone_if_named gone k named =
    let found = Any-from_list_any (λ g. eqb g k) gone named in
    let same : found.1 ≡ k = eqb-true _ _ found.4 in
    (found.0, found.2, get_or_default gone found.0 k found.1 found.2 ∙ (found.3 ∙ same))

-- site s stands at place i of the list, and place k + i is not gone
abbrev StaysAt : ℕ → List ℕ → List Site → Site → Type 0
StaysAt k gone sites s = (i : ℕ) × (i < length sites) × (¬ Contains gone (k + i)) × (get_or sites i s ≡ s)

one_on : (k : ℕ) (gone : List ℕ) (x : Site) (sites : List Site) (s : Site) → StaysAt (k + 1) gone sites s → StaysAt k gone (x ∷ sites) s
one_on k gone x sites s (i, within, open_place, at) =
    let same : k + suc i ≡ (k + 1) + i = omega arith in
    (suc i, omega arith, rw same open_place, at)

to_place : (k : ℕ) (gone : List ℕ) (sites : List Site) (s : Site) → Contains (kept_from k gone sites) s → StaysAt k gone sites s
to_place k gone [] s c = absurd (omega (arith, c.1))
to_place k gone (x ∷ sites) s c = by (list_any (λ g. eqb g k) gone) refl c (to_place (k + 1) gone sites s)
  where
    here : list_any (λ g. eqb g k) gone ≡ false → x ≡ s → StaysAt k gone (x ∷ sites) s
    here free e =
        let same : k + 0 ≡ k = omega arith in
        let not_gone : ¬ Contains gone k = λ c. false≢true (sym free ∙ named_if_gone gone k c) in
        (zero, omega arith, rw same not_gone, e)

    split : list_any (λ g. eqb g k) gone ≡ false → (Contains (kept_from (k + 1) gone sites) s → StaysAt (k + 1) gone sites s)
        → (x ≡ s) ⊎ Contains (kept_from (k + 1) gone sites) s → StaysAt k gone (x ∷ sites) s
    split free later (inl e) = here free e
    split free later (inr d) = one_on k gone x sites s (later d)

    by : (b : Bool) → list_any (λ g. eqb g k) gone ≡ b → Contains (cond b (kept_from (k + 1) gone sites) (x ∷ kept_from (k + 1) gone sites)) s
        → (Contains (kept_from (k + 1) gone sites) s → StaysAt (k + 1) gone sites s) → StaysAt k gone (x ∷ sites) s
    by true e d later = one_on k gone x sites s (later d)
    by false e d later = split e later (first_or_rest x (kept_from (k + 1) gone sites) s d)

from_place : (k : ℕ) (gone : List ℕ) (sites : List Site) (s : Site) → StaysAt k gone sites s → Contains (kept_from k gone sites) s
from_place k gone [] s (i, within, open_place, at) = absurd (omega arith)
from_place k gone (x ∷ sites) s (zero, within, open_place, at) = by (list_any (λ g. eqb g k) gone) refl
  where
    by : (b : Bool) → list_any (λ g. eqb g k) gone ≡ b → Contains (cond b (kept_from (k + 1) gone sites) (x ∷ kept_from (k + 1) gone sites)) s
    by true e =
        let same : k + 0 ≡ k = omega arith in
        let not_gone = rw same at open_place in
        absurd (not_gone (gone_if_named gone k e))
    by false e = (zero, omega arith, at)
from_place k gone (x ∷ sites) s (suc i, within, open_place, at) =
    let same : k + suc i ≡ (k + 1) + i = omega arith in
    by (list_any (λ g. eqb g k) gone) (from_place (k + 1) gone sites s (i, omega arith, (rw same at open_place), at))
  where
    by : (b : Bool) → Contains (kept_from (k + 1) gone sites) s → Contains (cond b (kept_from (k + 1) gone sites) (x ∷ kept_from (k + 1) gone sites)) s
    by true d = d
    by false d = in_rest x (kept_from (k + 1) gone sites) s d

pub stays : (gone : List ℕ) (sites : List Site) (s : Site) → Contains (sites_but gone sites) s
    ↔ ((k : ℕ) × (k < length sites) × (¬ Contains gone k) × (place_at sites k ≡ s))
stays gone sites s = (there, back)
  where
    there : Contains (sites_but gone sites) s → (k : ℕ) × (k < length sites) × (¬ Contains gone k) × (place_at sites k ≡ s)
    there c =
        let at = to_place 0 gone sites s c in
        let same : 0 + at.0 ≡ at.0 = omega arith in
        (at.0, at.1, (rw same at at.2), get_or_default sites at.0 origin s at.1 ∙ at.3)

    back : (k : ℕ) × (k < length sites) × (¬ Contains gone k) × (place_at sites k ≡ s) → Contains (sites_but gone sites) s
    back (k, within, open_place, at) =
        let same : 0 + k ≡ k = omega arith in
        from_place 0 gone sites s (k, within, rw same open_place, get_or_default sites k s origin within ∙ at)
