-- of two different places one stands before the other, and what stands before an earlier one stands before
use Rattle.std.proofs.Common.{◌≡◌, ◌≢◌, ◌⊎◌, inl, inr, Ordering, arith, refl, sym, ◌∙◌}
use Rattle.std.specs.declared.cmp.Ordering.TheVariants.{Less, Equal, Greater}
use Rattle.std.specs.Ordering.{int_cmp}
use Rattle.std.proofs.lemmas.Cmp.{int_ranked}
use Rattle.std.proofs.lemmas.Int.{ints}
use Rattle.sidb_layout.specs.declared.site.Site.{Site}
use Rattle.sidb_layout.specs.Site.{IsRowBefore}
use Rattle.layout_laws.proofs.Decisions.{same_site}

pub follows : (a b c : Site) → IsRowBefore a b → IsRowBefore b c → IsRowBefore a c
follows a b c (inl h) (inl k) = inl (omega (arith, ints, h, k))
follows a b c (inl h) (inr (m, k)) = inl (omega (arith, ints, h, m))
follows a b c (inr (m, h)) (inl k) = inl (omega (arith, ints, k, m))
follows a b c (inr (m, inl h)) (inr (m', inl k)) = inr (m ∙ m', inl (omega (arith, ints, h, k)))
follows a b c (inr (m, inl h)) (inr (m', inr (l, k))) = inr (m ∙ m', inl (omega (arith, ints, h, l)))
follows a b c (inr (m, inr (l, h))) (inr (m', inl k)) = inr (m ∙ m', inl (omega (arith, ints, k, l)))
follows a b c (inr (m, inr (l, h))) (inr (m', inr (l', k))) = inr (m ∙ m', inr (l ∙ l', omega (arith, ints, h, k)))

pub either_before : (a b : Site) → a ≢ b → IsRowBefore a b ⊎ IsRowBefore b a
either_before a b ne = by (int_cmp a.m b.m) (int_cmp a.l b.l) (int_cmp a.n b.n) refl refl refl
  where
    by : (m l n : Ordering) → m ≡ int_cmp a.m b.m → l ≡ int_cmp a.l b.l → n ≡ int_cmp a.n b.n → IsRowBefore a b ⊎ IsRowBefore b a
    by Less l n em el en = inl (inl (int_ranked a.m b.m Less em))
    by Greater l n em el en = inr (inl (int_ranked a.m b.m Greater em))
    by Equal Less n em el en = let m = int_ranked a.m b.m Equal em in inl (inr (m, inl (int_ranked a.l b.l Less el)))
    by Equal Greater n em el en = let m = int_ranked a.m b.m Equal em in inr (inr (sym m, inl (int_ranked a.l b.l Greater el)))
    by Equal Equal Less em el en =
        let m = int_ranked a.m b.m Equal em in
        let l = int_ranked a.l b.l Equal el in inl (inr (m, inr (l, int_ranked a.n b.n Less en)))
    by Equal Equal Greater em el en =
        let m = int_ranked a.m b.m Equal em in
        let l = int_ranked a.l b.l Equal el in inr (inr (sym m, inr (sym l, int_ranked a.n b.n Greater en)))
    by Equal Equal Equal em el en =
        absurd (ne (same_site a b (int_ranked a.n b.n Equal en) (int_ranked a.m b.m Equal em) (int_ranked a.l b.l Equal el)))
