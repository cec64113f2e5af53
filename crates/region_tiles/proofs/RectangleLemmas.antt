-- rectangles by their sides: at most one, at least one, and those of sides that follow each other are tiles
use Rattle.std.proofs.Common.{◌≡◌, ◌∙◌, ℕ, ℤ, pos, negsuc, ◌*◌, ◌<◌, ◌≤◌, ◌≤ℤ◌, inl, inr, List, unsigned_abs, refl, sym, ap, ap₂, subst, arith}
use Rattle.std.proofs.Props.{props}
use Rattle.std.proofs.Math.Nat.{mul-le-mul_right}
use Rattle.std.proofs.lemmas.Int.{ints}
use Rattle.std.specs.Prelude.{All, Contains}
use Rattle.std.proofs.lemmas.List.Elements.{All-weaker}
use Rattle.model_params.specs.declared.params.Params.{Params}
use Rattle.model_params.specs.Params.{AreParamsInRange}
use Rattle.model_params.specs.Quantities.{permittivity, screening_length}
use Rattle.screened_coulomb.specs.Potential.{eps_of, lam_of}
use Rattle.parameter_regions.specs.Corners.{AreCorners}
use Rattle.parameter_regions.specs.declared.rectangles.Rectangle.{Rectangle}
use Rattle.parameter_regions.specs.Points.{Point}
use Rattle.parameter_regions.specs.Rectangles.{IsInRectangle}
use Rattle.region_tiles.specs.Alike.{AreAlike}
use Rattle.region_tiles.specs.declared.sides.Side.{Side}
use Rattle.region_tiles.specs.Sides.{IsSideWithin, length_of}
use Rattle.region_tiles.specs.Rectangles.{AreRectangles, HasSides, Sides, eps_side, lam_side, rows_of, sides_of}
use Rattle.region_tiles.specs.Tiles.{HaveDisjointInsides, AreTiles, IsPartOfRectangle, area_of}
use Rattle.region_tiles.proofs.ListLemmas.{zip_all, zip_contains, zip_pairs, zip_sum}
use Rattle.region_tiles.proofs.SideLemmas.{AreSteps, HasNumber, LiesIn}
use Rattle.region_tiles.proofs.RowLemmas.{AreBeside, rows_all, rows_apart, rows_contain, rows_size, size_of}

-- the numbers of parameters
record Numbers : Type 0 where
  coulomb : ℤ
  eps : ℤ
  lam : ℤ
  depth : ℤ
  gap : ℤ
  base : ℕ

abbrev AreWithin : Numbers → Type 0
AreWithin n = AreParamsInRange n.coulomb n.eps n.lam n.depth n.gap n.base

abbrev params_from : (n : Numbers) → AreWithin n → Params
params_from n within = record { coulomb = n.coulomb; eps = n.eps; lam = n.lam; depth = n.depth; gap = n.gap; base = n.base; in_range = within }

abbrev numbers_of : Params → Numbers
numbers_of p = record { coulomb = p.coulomb; eps = p.eps; lam = p.lam; depth = p.depth; gap = p.gap; base = p.base }

one_range : (n : Numbers) (a b : AreWithin n) → a ≡ b
one_range n = hlevel props

same_numbers : (p q : Params) → numbers_of p ≡ numbers_of q → p ≡ q
same_numbers p q same =
    subst (λ (n : Numbers). (within : AreWithin n) → p ≡ params_from n within) same
    (λ within. ap (params_from (numbers_of p)) (one_range (numbers_of p) p.in_range within)) q.in_range

numbers_agree : (c d e f l m x y g h : ℤ) (a b : ℕ) → c ≡ d → e ≡ f → l ≡ m → x ≡ y → g ≡ h → a ≡ b
    → ◌≡◌ {A = Numbers} (record { coulomb = c; eps = e; lam = l; depth = x; gap = g; base = a }) (record { coulomb = d; eps = f; lam = m; depth = y; gap = h; base = b })
numbers_agree c d e f l m x y g h a b coulomb eps lam depth gap base = cc

-- numbers that are no less than 0
same_sign : (y z : ℤ) → pos 0 ≤ℤ y → pos 0 ≤ℤ z → unsigned_abs y ≡ unsigned_abs z → y ≡ z
same_sign (pos m) (pos n) a b same = ap pos same
same_sign (negsuc m) z a b same = absurd (omega (arith, ints, a))
same_sign (pos m) (negsuc n) a b same = absurd (omega (arith, ints, b))

eps_above : (p : Params) → pos 0 ≤ℤ p.eps
eps_above p = omega (arith, ints, p.in_range.eps_within.from)

lam_above : (p : Params) → pos 0 ≤ℤ p.lam
lam_above p = omega (arith, ints, p.in_range.lam_within.from)

one_corner : (p a b : Params) → AreAlike p a → AreAlike p b → eps_of a ≡ eps_of b → lam_of a ≡ lam_of b → a ≡ b
one_corner p a b left right eps lam =
    same_numbers a b (numbers_agree a.coulomb b.coulomb a.eps b.eps a.lam b.lam a.depth b.depth a.gap b.gap a.base b.base
    (left.coulomb ∙ sym right.coulomb) (same_sign a.eps b.eps (eps_above a) (eps_above b) eps) (same_sign a.lam b.lam (lam_above a) (lam_above b) lam)
    (left.depth ∙ sym right.depth) (left.gap ∙ sym right.gap) (left.base ∙ sym right.base))

one_order : (w s : Params) (a b : AreCorners w s) → a ≡ b
one_order w s = hlevel props

abbrev between_corners : (w s : Params) → AreCorners w s → Rectangle
between_corners w s are = record { weakest = w; strongest = s; are_corners = are }

same_corners : (r q : Rectangle) → r.weakest ≡ q.weakest → r.strongest ≡ q.strongest → r ≡ q
same_corners r q weakest strongest = by q.weakest weakest q.strongest strongest q.are_corners
  where
    here : (are : AreCorners r.weakest r.strongest) → r ≡ between_corners r.weakest r.strongest are
    here are = ap (between_corners r.weakest r.strongest) (one_order r.weakest r.strongest r.are_corners are)

    also : (s : Params) → r.strongest ≡ s → (are : AreCorners r.weakest s) → r ≡ between_corners r.weakest s are
    also s same = subst (λ (t : Params). (are : AreCorners r.weakest t) → r ≡ between_corners r.weakest t are) same here

    by : (w : Params) → r.weakest ≡ w → (s : Params) → r.strongest ≡ s → (are : AreCorners w s) → r ≡ between_corners w s are
    by w first s second = subst (λ (v : Params). (are : AreCorners v s) → r ≡ between_corners v s are) first (also s second)

-- the strongest corner is like the weakest
alike_strongest : (p : Params) (r : Rectangle) → AreAlike p r.weakest → AreAlike p r.strongest
alike_strongest p r is = record {
  coulomb = sym r.are_corners.coulomb ∙ is.coulomb;
  depth = sym r.are_corners.depth ∙ is.depth;
  gap = sym r.are_corners.gap ∙ is.gap;
  base = sym r.are_corners.base ∙ is.base;
}

-- a rectangle is given by its sides
pub one_rectangle : (p : Params) (s : Sides) (r q : Rectangle) → HasSides p s r → HasSides p s q → r ≡ q
one_rectangle p s r q a b =
    let eps = a.eps ∙ sym b.eps in
    let lam = a.lam ∙ sym b.lam in
    same_corners r q
    (one_corner p r.weakest q.weakest a.alike b.alike (ap (λ (t : Side). t.to) eps) (ap (λ (t : Side). t.from) lam))
    (one_corner p r.strongest q.strongest (alike_strongest p r a.alike) (alike_strongest p q b.alike) (ap (λ (t : Side). t.from) eps) (ap (λ (t : Side). t.to) lam))

-- two sides within their ranges have a rectangle
pub a_rectangle : (p : Params) (e l : Side) → IsSideWithin permittivity e → IsSideWithin screening_length l → (r : Rectangle) × HasSides p (sides_of e l) r
a_rectangle p e l eps lam =
    let in_range = p.in_range in
    let weakest : Params = record {
      coulomb = p.coulomb;
      eps = pos e.to;
      lam = pos l.from;
      depth = p.depth;
      gap = p.gap;
      base = p.base;
      in_range = record {
        coulomb_within = in_range.coulomb_within;
        eps_within = record { from = omega (arith, ints, eps.from, eps.order); to = eps.to };
        lam_within = record { from = lam.from; to = omega (arith, ints, lam.order, lam.to) };
        depth_within = in_range.depth_within;
        gap_within = in_range.gap_within;
        base_from = in_range.base_from;
        base_to = in_range.base_to;
      };
    } in
    let strongest : Params = record {
      coulomb = p.coulomb;
      eps = pos e.from;
      lam = pos l.to;
      depth = p.depth;
      gap = p.gap;
      base = p.base;
      in_range = record {
        coulomb_within = in_range.coulomb_within;
        eps_within = record { from = eps.from; to = omega (arith, ints, eps.order, eps.to) };
        lam_within = record { from = omega (arith, ints, lam.from, lam.order); to = lam.to };
        depth_within = in_range.depth_within;
        gap_within = in_range.gap_within;
        base_from = in_range.base_from;
        base_to = in_range.base_to;
      };
    } in (
      record {
        weakest = weakest;
        strongest = strongest;
        are_corners = record { coulomb = refl; eps = omega (arith, ints, eps.order); lam = omega (arith, ints, lam.order); depth = refl; gap = refl; base = refl };
      },
      record { alike = record { coulomb = refl; depth = refl; gap = refl; base = refl }; eps = refl; lam = refl },
    )

-- sides as numbers
from_of : (s t : Side) → s ≡ t → s.from ≡ t.from
from_of s t same = ap (λ (u : Side). u.from) same

to_of : (s t : Side) → s ≡ t → s.to ≡ t.to
to_of s t same = ap (λ (u : Side). u.to) same

like_each_other : (p a b : Params) → AreAlike p a → AreAlike p b → AreAlike a b
like_each_other p a b left right = record {
  coulomb = right.coulomb ∙ sym left.coulomb;
  depth = right.depth ∙ sym left.depth;
  gap = right.gap ∙ sym left.gap;
  base = right.base ∙ sym left.base;
}

abbrev LieIn : Sides → Sides → Type 0
LieIn w s = LiesIn w.eps s.eps × LiesIn w.lam s.lam

part_by_sides : (p : Params) (w s : Sides) (whole part : Rectangle) → HasSides p w whole → LieIn w s → HasSides p s part → IsPartOfRectangle whole part
part_by_sides p w s whole part of_whole lies of_part =
    let (eps, lam) = lies in
    let a = from_of (eps_side whole) w.eps of_whole.eps in
    let b = to_of (eps_side whole) w.eps of_whole.eps in
    let c = from_of (lam_side whole) w.lam of_whole.lam in
    let d = to_of (lam_side whole) w.lam of_whole.lam in
    let e = from_of (eps_side part) s.eps of_part.eps in
    let f = to_of (eps_side part) s.eps of_part.eps in
    let g = from_of (lam_side part) s.lam of_part.lam in
    let h = to_of (lam_side part) s.lam of_part.lam in
    record {
      alike = like_each_other p whole.weakest part.weakest of_whole.alike of_part.alike;
      eps_from = omega (arith, a, e, eps.0);
      eps_to = omega (arith, b, f, eps.1);
      lam_from = omega (arith, c, g, lam.0);
      lam_to = omega (arith, d, h, lam.1);
    }

-- a point by the sides
in_side : (s t : Side) (n d : ℕ) → s ≡ t → HasNumber n d s → HasNumber n d t
in_side s t n d same has = subst (HasNumber n d) same has

apart_by : (s t : Side) (n d : ℕ) → s.to ≤ t.from → n < s.to * d → t.from * d < n → ⊥
apart_by s t n d le below above = let grows : s.to * d ≤ t.from * d = mul-le-mul_right d le in omega (arith, grows, below, above)

apart_by_sides : (p : Params) (x y : Sides) (a b : Rectangle) → AreBeside x y → HasSides p x a → HasSides p y b → HaveDisjointInsides a b
apart_by_sides p x y a b (inl eps) of_a of_b point in_a in_b =
    apart_by x.eps y.eps point.eps point.parts eps
    (subst (λ (s : Side). point.eps < s.to * point.parts) of_a.eps in_a.eps_to)
    (subst (λ (s : Side). s.from * point.parts < point.eps) of_b.eps in_b.eps_from)
apart_by_sides p x y a b (inr lam) of_a of_b point in_a in_b =
    apart_by x.lam y.lam point.lam point.parts lam
    (subst (λ (s : Side). point.lam < s.to * point.parts) of_a.lam in_a.lam_to)
    (subst (λ (s : Side). s.from * point.parts < point.lam) of_b.lam in_b.lam_from)

-- the rectangles of sides that follow each other tile the whole
pub tiles_by_sides : (p : Params) (w : Sides) (whole : Rectangle) (es ls : List Side) (rs : List Rectangle)
    → HasSides p w whole → AreSteps w.eps es → AreSteps w.lam ls → AreRectangles p es ls rs → AreTiles whole rs
tiles_by_sides p w whole es ls rs of_whole eps lam are = record {
  parts = zip_all (LieIn w) (HasSides p) (IsPartOfRectangle whole) (λ s part lies is. part_by_sides p w s whole part of_whole lies is) (rows_of es ls) rs all_lie are;
  cover = cover;
  apart = zip_pairs AreBeside (HasSides p) HaveDisjointInsides (λ x y a b beside of_a of_b. apart_by_sides p x y a b beside of_a of_b) (rows_of es ls) rs (rows_apart es ls eps.before lam.before) are;
  area = zip_sum size_of area_of (HasSides p) (λ s r is. sizes s r is) (rows_of es ls) rs are ∙ rows_size es ls ∙ ap₂ (λ (m n : ℕ). m * n) eps.length lam.length ∙ sym (sizes w whole of_whole);
}
  where
    all_lie : All (LieIn w) (rows_of es ls)
    all_lie = rows_all (LieIn w) es ls (All-weaker (LiesIn w.eps) (λ e. All (λ l. LieIn w (sides_of e l)) ls) (λ e here. All-weaker (LiesIn w.lam) (λ l. LieIn w (sides_of e l)) (λ l there. (here, there)) ls lam.within) es eps.within)

    sizes : (s : Sides) (r : Rectangle) → HasSides p s r → area_of r ≡ size_of s
    sizes s r is = ap₂ (λ (e l : Side). length_of e * length_of l) is.eps is.lam

    cover : (point : Point) → IsInRectangle whole point → (tile : Rectangle) × Contains rs tile × IsInRectangle tile point
    cover point inside =
        let (e, of_es, has) = eps.cover point.eps point.parts (in_side (eps_side whole) w.eps point.eps point.parts of_whole.eps (inside.eps_from, inside.eps_to)) in
        let (l, of_ls, also) = lam.cover point.lam point.parts (in_side (lam_side whole) w.lam point.lam point.parts of_whole.lam (inside.lam_from, inside.lam_to)) in
        let (tile, member, is) = zip_contains (HasSides p) (rows_of es ls) rs (sides_of e l) are (rows_contain es ls e l of_es of_ls) in
        let by_eps = in_side e (eps_side tile) point.eps point.parts (sym is.eps) has in
        let by_lam = in_side l (lam_side tile) point.lam point.parts (sym is.lam) also in
        (tile, member, record { some = inside.some; eps_from = by_eps.0; eps_to = by_eps.1; lam_from = by_lam.0; lam_to = by_lam.1 })
