-- lines without a fault make a layout: the places that they give are few, and no two of them are related
use Rattle.std.proofs.Common.{◌≡◌, sym, subst, refl, ℕ, zero, suc, ◌<◌, List, [], ◌∷◌, ◌++◌, length, arith, Some}
use Rattle.std.specs.Prelude.{All, AllPairs, IsSomeAnd}
use Rattle.std.proofs.lemmas.List.Elements.{All-nil, All-cons, All-head, All-tail}
use Rattle.std.proofs.lemmas.List.Kept.{AllPairs-cons}
use Rattle.sidb_layout.specs.declared.site.Site.{Site}
use Rattle.sidb_layout.specs.declared.site.Fix.{Fix}
use Rattle.sidb_layout.specs.declared.lattice.Lattice.{Lattice as CrystalLattice}
use Rattle.sidb_layout.specs.Site.{IsInRange, IsFixInRange, places_of, places_of_fixes}
use Rattle.sidb_layout.specs.Lattice.{squared_distance}
use Rattle.sidb_layout.specs.Layout.{Arrangement}
use Rattle.sidb_layout.specs.Refusal.{IsTooClose, AreFew, AreDistinct, IsMadeOf}
use Rattle.sites_layout.specs.declared.line.SitesLine.{SitesLine}
use Rattle.sites_layout.specs.declared.line.SitesLine.TheVariants.{Empty, Place, Charge, Lattice}
use Rattle.sites_layout.specs.SitesLines.{place_in, place_on, sites_in_lines, fixes_of}
use Rattle.sites_layout.specs.SitesFaults.{IsLineInRange, AreLinesInRange, AreFewLines, HasNoClash, IsClear}

-- the places that lines give, sites first
abbrev given : List SitesLine → List Site
given ls = places_of (sites_in_lines ls) (fixes_of ls)

-- S holds in either direction
abbrev IsTurned : (Site → Site → Type 0) → Type 0
IsTurned S = (a b : Site) → S a b → S b a

-- one more element between two lists
all_between : (P : Site → Type 0) (xs ys : List Site) (a : Site) → All P (xs ++ ys) → P a → All P (xs ++ a ∷ ys)
all_between P [] ys a all here = All-cons P a ys here all
all_between P (x ∷ xs) ys a all here =
    All-cons P x (xs ++ a ∷ ys) (All-head P x (xs ++ ys) all) (all_between P xs ys a (All-tail P x (xs ++ ys) all) here)

first_pairs : (S : Site → Site → Type 0) (x : Site) (xs : List Site) → AllPairs S (x ∷ xs) → All (S x) xs
first_pairs S x [] pairs = All-nil (S x)
first_pairs S x (y ∷ ys) pairs = All-cons (S x) y ys (pairs zero (suc zero) x (omega arith) (omega arith)) (first_pairs S x ys less)
  where
    less : AllPairs S (x ∷ ys)
    less zero (suc j) d before within = pairs zero (suc (suc j)) d (omega arith) (omega (arith, within))
    less (suc i) (suc j) d before within = pairs (suc (suc i)) (suc (suc j)) d (omega (arith, before)) (omega (arith, within))
    less i zero d before within = absurd (omega (arith, before))

later_pairs : (S : Site → Site → Type 0) (x : Site) (xs : List Site) → AllPairs S (x ∷ xs) → AllPairs S xs
later_pairs S x xs pairs i j d before within = pairs (suc i) (suc j) d (omega (arith, before)) (omega (arith, within))

no_pairs : (S : Site → Site → Type 0) → AllPairs S []
no_pairs S i j d before within = absurd (omega (arith, within))

pairs_between : (S : Site → Site → Type 0) → IsTurned S → (xs ys : List Site) (a : Site) → AllPairs S (xs ++ ys) → All (S a) (xs ++ ys)
    → AllPairs S (xs ++ a ∷ ys)
pairs_between S turned [] ys a pairs all = AllPairs-cons S a ys all pairs
pairs_between S turned (x ∷ xs) ys a pairs all =
    AllPairs-cons S x (xs ++ a ∷ ys)
    (all_between (S x) xs ys a (first_pairs S x (xs ++ ys) pairs) (turned a x (All-head (S a) x (xs ++ ys) all)))
    (pairs_between S turned xs ys a (later_pairs S x (xs ++ ys) pairs) (All-tail (S a) x (xs ++ ys) all))

-- what holds of the place on each line holds of all given places
all_given : (P : Site → Type 0) (ls : List SitesLine) → ((k : ℕ) (b : Site) → k < length ls → place_on ls k ≡ Some b → P b) → All P (given ls)
all_given P [] h = All-nil P
all_given P (Empty ∷ ls) h = all_given P ls (λ k b w e. h (suc k) b (omega arith) e)
all_given P (Place s ∷ ls) h =
    All-cons P s (given ls) (h zero s (omega arith) refl) (all_given P ls (λ k b w e. h (suc k) b (omega arith) e))
all_given P (Charge f ∷ ls) h =
    all_between P (sites_in_lines ls) (places_of_fixes (fixes_of ls)) f.site (all_given P ls (λ k b w e. h (suc k) b (omega arith) e)) (h zero f.site (omega arith) refl)
all_given P (Lattice v ∷ ls) h = all_given P ls (λ k b w e. h (suc k) b (omega arith) e)

no_clash_behind : (R : Site → Site → Type 0) (l : SitesLine) (ls : List SitesLine) → HasNoClash R (l ∷ ls) → HasNoClash R ls
no_clash_behind R l ls none h k before within = none (suc h) (suc k) (omega arith) (omega arith)

-- R does not relate the place on the first line to one behind it
unrelated_first : (R : Site → Site → Type 0) (a : Site) (l : SitesLine) (ls : List SitesLine) → place_in l ≡ Some a
    → HasNoClash R (l ∷ ls) → (k : ℕ) (b : Site) → k < length ls → place_on ls k ≡ Some b → R a b → ⊥
unrelated_first R a l ls is none k b within at r = clash related
  where
    clash : IsSomeAnd (place_on ls k) (λ y. IsSomeAnd (place_in l) (λ x. R x y)) → ⊥
    clash h = none zero (suc k) (omega arith) (omega arith) h

    related : IsSomeAnd (place_on ls k) (λ y. IsSomeAnd (place_in l) (λ x. R x y))
    related =
        subst (λ o. IsSomeAnd o (λ y. IsSomeAnd (place_in l) (λ x. R x y))) (sym at)
        (subst (λ o. IsSomeAnd o (λ x. R x b)) (sym is) r)

-- where no lines clash, no two given places are related
given_pairs : (R : Site → Site → Type 0) → IsTurned R → (ls : List SitesLine) → HasNoClash R ls → AllPairs (λ a b. R a b → ⊥) (given ls)
given_pairs R turned [] none = no_pairs (λ a b. R a b → ⊥)
given_pairs R turned (Empty ∷ ls) none = given_pairs R turned ls (no_clash_behind R Empty ls none)
given_pairs R turned (Place s ∷ ls) none =
    AllPairs-cons (λ a b. R a b → ⊥) s (given ls)
    (all_given (λ b. R s b → ⊥) ls (unrelated_first R s (Place s) ls refl none))
    (given_pairs R turned ls (no_clash_behind R (Place s) ls none))
given_pairs R turned (Charge f ∷ ls) none =
    pairs_between (λ a b. R a b → ⊥) (λ a b never r. never (turned b a r)) (sites_in_lines ls) (places_of_fixes (fixes_of ls)) f.site
    (given_pairs R turned ls (no_clash_behind R (Charge f) ls none))
    (all_given (λ b. R f.site b → ⊥) ls (unrelated_first R f.site (Charge f) ls refl none))
given_pairs R turned (Lattice v ∷ ls) none = given_pairs R turned ls (no_clash_behind R (Lattice v) ls none)

-- the sites and the fixed charges of few enough lines in range
sites_in_range : (ls : List SitesLine) → AreLinesInRange ls → All IsInRange (sites_in_lines ls)
sites_in_range [] all = All-nil IsInRange
sites_in_range (Empty ∷ ls) all = sites_in_range ls (All-tail IsLineInRange Empty ls all)
sites_in_range (Place s ∷ ls) all =
    All-cons IsInRange s (sites_in_lines ls) (All-head IsLineInRange (Place s) ls all) (sites_in_range ls (All-tail IsLineInRange (Place s) ls all))
sites_in_range (Charge f ∷ ls) all = sites_in_range ls (All-tail IsLineInRange (Charge f) ls all)
sites_in_range (Lattice v ∷ ls) all = sites_in_range ls (All-tail IsLineInRange (Lattice v) ls all)

fixes_in_range : (ls : List SitesLine) → AreLinesInRange ls → All IsFixInRange (fixes_of ls)
fixes_in_range [] all = All-nil IsFixInRange
fixes_in_range (Empty ∷ ls) all = fixes_in_range ls (All-tail IsLineInRange Empty ls all)
fixes_in_range (Place s ∷ ls) all = fixes_in_range ls (All-tail IsLineInRange (Place s) ls all)
fixes_in_range (Charge f ∷ ls) all =
    All-cons IsFixInRange f (fixes_of ls) (All-head IsLineInRange (Charge f) ls all) (fixes_in_range ls (All-tail IsLineInRange (Charge f) ls all))
fixes_in_range (Lattice v ∷ ls) all = fixes_in_range ls (All-tail IsLineInRange (Lattice v) ls all)

few_places : (ls : List SitesLine) → AreFewLines ls → AreFew (sites_in_lines ls) (fixes_of ls)
few_places ls few = record {
  in_range = record { all_sites = sites_in_range ls few.in_range; all_fixes = fixes_in_range ls few.in_range };
  few_sites = few.few_sites;
  few_fixes = few.few_fixes;
}

-- the laws below
abbrev pub HaveNoDirection : Type 0
HaveNoDirection = (v : CrystalLattice) (a b : Site) → squared_distance v a b ≡ squared_distance v b a

abbrev pub ClearPlacesMakeALayout : Type 0
ClearPlacesMakeALayout = (v : CrystalLattice) (sites : List Site) (fixes : List Fix) → AreFew sites fixes → AreDistinct (places_of sites fixes)
    → AllPairs (λ a b. ¬ IsTooClose v a b) (places_of sites fixes) → (p : Arrangement) × IsMadeOf v sites fixes p

pub clear_lines : HaveNoDirection → ClearPlacesMakeALayout → (v : CrystalLattice) (ls : List SitesLine) → IsClear v ls
    → (p : Arrangement) × IsMadeOf v (sites_in_lines ls) (fixes_of ls) p
clear_lines turned made v ls clear =
    made v (sites_in_lines ls) (fixes_of ls) (few_places ls clear.few)
    (given_pairs (λ a b. a ≡ b) (λ a b e. sym e) ls clear.distinct)
    (given_pairs (IsTooClose v) (λ a b close. omega (arith, turned v a b, close)) ls clear.apart)
