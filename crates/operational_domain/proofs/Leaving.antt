-- what a pattern leaves of a layout: one thing, which is there, and a layout
use Rattle.std.proofs.Common.{◌≡◌, ◌∙◌, sym, ap, ap₂, refl, subst, ℕ, ◌<◌, ◌≤◌, ◌⊎◌, inl, inr, List, [], ◌∷◌, length, arith}
use Rattle.std.specs.Prelude.{◌↔◌, All, Contains}
use Rattle.std.proofs.lemmas.Bool.{cases_lt}
use Rattle.std.proofs.lemmas.Int.{ints}
use Rattle.std.proofs.lemmas.List.{get_or_default}
use Rattle.std.proofs.lemmas.List.Elements.{All-head, All-tail}
use Rattle.sidb_layout.specs.declared.site.Site.{Site}
use Rattle.sidb_layout.specs.Site.{IsRowBefore, IsInRowOrder, origin, place_at}
use Rattle.sidb_layout.specs.Layout.{Arrangement, IsLayout, arrangement_of}
use Rattle.sidb_layout.specs.Dropping.{sites_but}
use Rattle.sidb_layout.proofs.Kept.{kept_layout}
use Rattle.gate_model.specs.declared.pairs.PairOf.{PairOf}
use Rattle.gate_model.specs.Logic.{Logic, IsLogic}
use Rattle.bdl_pairs.specs.Remaining.{AreMoved, IsKeptSite, IsKeptPair, IsLeft, IsMovedPair, IsMovedTo, IsOn, Remaining, emptied_by, sites_under}
use Rattle.bdl_pairs.proofs.Emptied.{all_kept}

-- no place stands before itself
not_itself : (a : Site) → IsRowBefore a a → ⊥
not_itself a (inl h) = omega (arith, ints)
not_itself a (inr (m, inl h)) = omega (arith, ints)
not_itself a (inr (m, inr (l, h))) = omega (arith, ints)

-- sites in row order stand at one place each
one_place : (sites : List Site) (i j : ℕ) → IsInRowOrder sites → i < length sites → j < length sites → place_at sites i ≡ place_at sites j → i ≡ j
one_place sites i j order here there same = by (cases_lt i j) (cases_lt j i)
  where
    by : (i < j) ⊎ (j ≤ i) → (j < i) ⊎ (i ≤ j) → i ≡ j
    by (inl less) other = absurd (not_itself (place_at sites j) (subst (λ s. IsRowBefore s (place_at sites j)) same (order i j origin less there)))
    by (inr most) (inl more) = absurd (not_itself (place_at sites j) (subst (λ s. IsRowBefore (place_at sites j) s) same (order j i origin more here)))
    by (inr most) (inr least) = omega (arith, most, least)

-- a pair of these places
abbrev pair_of : ℕ → ℕ → PairOf
pair_of a b = record { a = a; b = b }

-- so a site has one new place, a pair one new pair, and pairs have one list of new ones
one_moved : (old new : List Site) (place x y : ℕ) → IsInRowOrder new → IsMovedTo old new place x → IsMovedTo old new place y → x ≡ y
one_moved old new place x y order a b = one_place new x y order a.within b.within (a.same ∙ sym b.same)

one_pair : (old new : List Site) (pair x y : PairOf) → IsInRowOrder new → IsMovedPair old new pair x → IsMovedPair old new pair y → x ≡ y
one_pair old new pair x y order a b =
    ap₂ pair_of (one_moved old new pair.a x.a y.a order a.a b.a) (one_moved old new pair.b x.b y.b order a.b b.b)

one_list : (old new : List Site) (pairs xs ys : List PairOf) → IsInRowOrder new → AreMoved old new pairs xs → AreMoved old new pairs ys → xs ≡ ys
one_list old new [] [] [] order a b = refl
one_list old new [] (x ∷ xs) ys order a b = absurd a
one_list old new [] [] (y ∷ ys) order a b = absurd b
one_list old new (p ∷ pairs) [] ys order a b = absurd a
one_list old new (p ∷ pairs) (x ∷ xs) [] order a b = absurd b
one_list old new (p ∷ pairs) (x ∷ xs) (y ∷ ys) order a b =
    ap₂ (λ z zs. z ∷ zs) (one_pair old new p x y order a.0 b.0) (one_list old new pairs xs ys order a.1 b.1)

-- what is left of a layout is a layout
pub left_layout : (whole : Arrangement) (gate : Logic) (k : ℕ) (left : Remaining) → IsLayout whole → IsLeft whole gate k left → IsLayout left.layout
left_layout whole gate k left valid is = subst IsLayout (sym is.layout) (kept_layout whole (emptied_by gate.inputs k) valid)

-- this layout and these outputs
abbrev remaining_of : Arrangement → List PairOf → Remaining
remaining_of layout outputs = record { layout = layout; outputs = outputs }

pub one_left : (whole : Arrangement) (gate : Logic) (k : ℕ) (a b : Remaining) → IsLayout whole → IsLeft whole gate k a → IsLeft whole gate k b → a ≡ b
one_left whole gate k a b valid x y =
    let layouts : a.layout ≡ b.layout = x.layout ∙ sym y.layout in
    let moved : AreMoved whole.sites b.layout.sites gate.outputs a.outputs = subst (λ (l : Arrangement). AreMoved whole.sites l.sites gate.outputs a.outputs) layouts x.outputs in
    let order : IsInRowOrder b.layout.sites = (left_layout whole gate k b valid y).sites_in_order in
    ap₂ remaining_of layouts (one_list whole.sites b.layout.sites gate.outputs a.outputs b.outputs order moved y.outputs)

-- the sites that stay are those whose places are not gone
abbrev pub OthersStay : Type 0
OthersStay = (gone : List ℕ) (sites : List Site) (s : Site) → Contains (sites_but gone sites) s
    ↔ ((k : ℕ) × (k < length sites) × (¬ Contains gone k) × (place_at sites k ≡ s))

-- a site that stays has a new place, and pairs of such sites have new pairs
some_place : (old new : List Site) (x : ℕ) → IsKeptSite old new x → (y : ℕ) × IsMovedTo old new x y
some_place old new x kept =
    let at = kept.stays in
    (at.0, record { within = at.1; same = get_or_default new at.0 origin (place_at old x) at.1 ∙ at.2 })

some_pairs : (old new : List Site) (pairs : List PairOf) → All (IsKeptPair old new) pairs → (moved : List PairOf) × AreMoved old new pairs moved
some_pairs old new [] all = ([], tt)
some_pairs old new (p ∷ pairs) all =
    let kept = All-head (IsKeptPair old new) p pairs all in
    let a = some_place old new p.a kept.a in
    let b = some_place old new p.b kept.b in
    let later = some_pairs old new pairs (All-tail (IsKeptPair old new) p pairs all) in
    (pair_of a.0 b.0 ∷ later.0, (record { a = a.1; b = b.1 }, later.1))

pub some_left : OthersStay → (whole : Arrangement) (gate : Logic) (k : ℕ) → IsLogic gate → IsOn gate whole.sites → (left : Remaining) × IsLeft whole gate k left
some_left others whole gate k logic on =
    let sites = sites_under gate k whole.sites in
    let moved = some_pairs whole.sites sites gate.outputs (all_kept gate whole.sites k logic on others) in
    (remaining_of (arrangement_of whole.lattice sites whole.fixes) moved.0, record { layout = refl; outputs = moved.1 })
