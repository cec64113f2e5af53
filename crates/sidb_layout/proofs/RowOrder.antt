-- sorted places stand in row order
use Rattle.std.proofs.Common.{◌≡◌, ◌≢◌, ◌<◌, ℤ, pos, false, inl, inr, List, length, get_or, arith, refl, sym, ap, ◌∙◌, Ordering}
use Rattle.std.proofs.lemmas.Bool.{false≢true}
use Rattle.std.specs.declared.cmp.Ordering.TheVariants.{Less, Equal, Greater}
use Rattle.std.specs.Ordering.{is_lt, int_cmp, ordering_then}
use Rattle.std.specs.Cmp.{IsTotalOrder}
use Rattle.std.specs.List.Sorted.{IsSorted, IsSortedByKey}
use Rattle.std.proofs.lemmas.Cmp.{int_ranked, int_cmp_total, on_total, then_total}
use Rattle.std.proofs.lemmas.List.{get_or-map, length-map}
use Rattle.std.proofs.lemmas.List.Sorted.{ranks_by, sorted_far}
use Rattle.sidb_layout.specs.declared.site.Site.{Site}
use Rattle.sidb_layout.specs.declared.site.Fix.{Fix}
use Rattle.sidb_layout.specs.Site.{IsRowBefore, IsInRowOrder, row_cmp, places_of_fixes}
use Rattle.sidb_layout.specs.Refusal.{AreDistinct}

pub same_site : (a b : Site) → a.m ≡ b.m → a.l ≡ b.l → a.n ≡ b.n → a ≡ b
same_site a b m l n =
    ap (λ (k : ℤ). let s : Site = record { n = k; m = a.m; l = a.l } in s) n
    ∙ (ap (λ (k : ℤ). let s : Site = record { n = b.n; m = k; l = a.l } in s) m
    ∙ ap (λ (k : ℤ). let s : Site = record { n = b.n; m = b.m; l = k } in s) l)

-- of two different places that are not in the turned order the first stands before the second
before_by : (a b : Site) (by_row by_atom by_column : Ordering) → by_row ≡ int_cmp b.m a.m → by_atom ≡ int_cmp b.l a.l
    → by_column ≡ int_cmp b.n a.n → is_lt (ordering_then by_row (ordering_then by_atom by_column)) ≡ false → a ≢ b → IsRowBefore a b
before_by a b Less k c em el en h ne = absurd (false≢true (sym h))
before_by a b Greater k c em el en h ne = inl (int_ranked b.m a.m Greater em)
before_by a b Equal Less c em el en h ne = absurd (false≢true (sym h))
before_by a b Equal Greater c em el en h ne = inr (sym (int_ranked b.m a.m Equal em), inl (int_ranked b.l a.l Greater el))
before_by a b Equal Equal Less em el en h ne = absurd (false≢true (sym h))
before_by a b Equal Equal Greater em el en h ne =
    inr (sym (int_ranked b.m a.m Equal em), inr (sym (int_ranked b.l a.l Equal el), int_ranked b.n a.n Greater en))
before_by a b Equal Equal Equal em el en h ne =
    absurd (ne (same_site a b (sym (int_ranked b.m a.m Equal em)) (sym (int_ranked b.l a.l Equal el)) (sym (int_ranked b.n a.n Equal en))))

pub before_unless_after : (a b : Site) → is_lt (row_cmp b a) ≡ false → a ≢ b → IsRowBefore a b
before_unless_after a b h ne =
    before_by a b (int_cmp b.m a.m) (int_cmp b.l a.l) (int_cmp b.n a.n) refl refl refl h ne

row_total : IsTotalOrder row_cmp
row_total =
    then_total (on_total (λ (s : Site). s.m) int_cmp_total) (then_total (on_total (λ (s : Site). s.l) int_cmp_total) (on_total (λ (s : Site). s.n) int_cmp_total))

pub in_row_order : (places : List Site) → IsSorted row_cmp places → AreDistinct places → IsInRowOrder places
in_row_order places sorted distinct i j d before within =
    let order = ranks_by row_total (λ (s : Site). s) in
    before_unless_after (get_or places i d) (get_or places j d)
    (sorted_far (λ x y. is_lt (row_cmp x y)) order places sorted i j d (omega arith) within)
    (distinct i j d before within)

pub fixes_in_row_order : (fixes : List Fix) → IsSortedByKey (λ (f : Fix). f.site) row_cmp fixes
    → AreDistinct (places_of_fixes fixes) → IsInRowOrder (places_of_fixes fixes)
fixes_in_row_order fixes sorted distinct i j d before within =
    let e : Fix = record { site = d; charge = pos 0 } in
    let order = ranks_by row_total (λ (f : Fix). f.site) in
    let length_same = length-map fixes (λ (f : Fix). f.site) in
    let j_within : j < length fixes = omega (arith, length_same) in
    let i_within : i < length fixes = omega arith in
    let far = sorted_far (λ (x y : Fix). is_lt (row_cmp x.site y.site)) order fixes sorted i j e (omega arith) j_within in
    let ne = distinct i j d before within in
    let at_i = get_or-map (λ (f : Fix). f.site) fixes i e d i_within in
    let at_j = get_or-map (λ (f : Fix). f.site) fixes j e d j_within in
    rw (at_i, at_j) (before_unless_after (get_or fixes i e).site (get_or fixes j e).site far (rw (at_i, at_j) at ne))
