-- tiles of the tiles of a rectangle are tiles of it
use Rattle.std.proofs.Common.{◌≡◌, ◌∙◌, ℕ, zero, suc, ◌+◌, List, [], ◌∷◌, refl, sym, ap₂, subst, arith}
use Rattle.std.specs.Prelude.{All, AllPairs, Contains, flat_map, sum_by}
use Rattle.std.specs.List.{AllZip}
use Rattle.std.proofs.lemmas.List.Sums.{sum_by-append}
use Rattle.std.proofs.lemmas.List.Elements.{All-append, All-head, All-nil, All-tail, All-weaker, Contains-append_left, Contains-append_right}
use Rattle.parameter_regions.specs.declared.rectangles.Rectangle.{Rectangle}
use Rattle.parameter_regions.specs.Points.{Point}
use Rattle.parameter_regions.specs.Rectangles.{IsInRectangle}
use Rattle.region_tiles.specs.Tiles.{HaveDisjointInsides, AreTiles, IsPartOfRectangle, area_of}
use Rattle.region_tiles.proofs.ListLemmas.{pairs_append}
use Rattle.region_tiles.proofs.TileLemmas.{inside_whole, part_of_part}

-- all of the lists
abbrev all_of : List (List Rectangle) → List Rectangle
all_of parts = flat_map (λ ts. ts) parts

sum_more : (f : Rectangle → ℕ) (x : Rectangle) (xs : List Rectangle) → sum_by f (x ∷ xs) ≡ f x + sum_by f xs
sum_more f x xs = let both : sum_by f (x ∷ xs) ≡ 0 + f x + sum_by f xs = sum_by-append f (x ∷ []) xs in omega (arith, both)

-- something that holds of all parts of each
each_part : (P : Rectangle → Type 0) (rs : List Rectangle) (parts : List (List Rectangle)) → All (λ r. (t : Rectangle) → IsPartOfRectangle r t → P t) rs → AllZip AreTiles rs parts → All P (all_of parts)
each_part P [] [] holds are = All-nil P
each_part P [] (ts ∷ parts) holds are = absurd are
each_part P (r ∷ rs) [] holds are = absurd are
each_part P (r ∷ rs) (ts ∷ parts) holds are =
    let here = All-weaker (IsPartOfRectangle r) P (All-head (λ r. (t : Rectangle) → IsPartOfRectangle r t → P t) r rs holds) ts are.0.parts in
    All-append P ts (all_of parts) here (each_part P rs parts (All-tail (λ r. (t : Rectangle) → IsPartOfRectangle r t → P t) r rs holds) are.1)

found_in : (point : Point) (rs : List Rectangle) (parts : List (List Rectangle)) → AllZip AreTiles rs parts → (r : Rectangle) → Contains rs r → IsInRectangle r point
    → (t : Rectangle) × Contains (all_of parts) t × IsInRectangle t point
found_in point [] [] are r (k, within, is) inside = absurd (omega (arith, within))
found_in point [] (ts ∷ parts) are r member inside = absurd are
found_in point (s ∷ rs) [] are r member inside = absurd are
found_in point (s ∷ rs) (ts ∷ parts) are r (zero, within, is) inside =
    let (t, member, there) = are.0.cover point (subst (λ (q : Rectangle). IsInRectangle q point) (sym is) inside) in
    (t, Contains-append_left ts (all_of parts) t member, there)
found_in point (s ∷ rs) (ts ∷ parts) are r (suc k, within, is) inside =
    let (t, member, there) = found_in point rs parts are.1 r (k, omega (arith, within), is) inside in
    (t, Contains-append_right ts (all_of parts) t member, there)

apart_all : (rs : List Rectangle) (parts : List (List Rectangle)) → AllPairs HaveDisjointInsides rs → AllZip AreTiles rs parts → AllPairs HaveDisjointInsides (all_of parts)
apart_all [] [] apart are = λ i j d less within. absurd (omega (arith, within))
apart_all [] (ts ∷ parts) apart are = absurd are
apart_all (r ∷ rs) [] apart are = absurd are
apart_all (r ∷ rs) (ts ∷ parts) apart are =
    let later : All (HaveDisjointInsides r) rs = λ k d within. apart zero (suc k) d (omega arith) (omega (arith, within)) in
    let rest = apart_all rs parts (λ i j d less within. apart (suc i) (suc j) d (omega (arith, less)) (omega (arith, within))) are.1 in
    let across : All (λ x. All (HaveDisjointInsides x) (all_of parts)) ts =
    All-weaker (IsPartOfRectangle r) (λ x. All (HaveDisjointInsides x) (all_of parts))
    (λ x is. each_part (HaveDisjointInsides x) rs parts (All-weaker (HaveDisjointInsides r) (λ s. (t : Rectangle) → IsPartOfRectangle s t → HaveDisjointInsides x t) (λ s away t also point in_x in_t. away point (inside_whole r x point is in_x) (inside_whole s t point also in_t)) rs later) are.1)
    ts are.0.parts in
    pairs_append HaveDisjointInsides ts (all_of parts) are.0.apart rest across

areas_all : (rs : List Rectangle) (parts : List (List Rectangle)) → AllZip AreTiles rs parts → sum_by area_of (all_of parts) ≡ sum_by area_of rs
areas_all [] [] are = refl
areas_all [] (ts ∷ parts) are = absurd are
areas_all (r ∷ rs) [] are = absurd are
areas_all (r ∷ rs) (ts ∷ parts) are =
    sum_by-append area_of ts (all_of parts) ∙ ap₂ (λ (m n : ℕ). m + n) are.0.area (areas_all rs parts are.1) ∙ sym (sum_more area_of r rs)

pub many_tiles : (whole : Rectangle) (rs : List Rectangle) (parts : List (List Rectangle)) → AreTiles whole rs → AllZip AreTiles rs parts → AreTiles whole (flat_map (λ ts. ts) parts)
many_tiles whole rs parts tiles are = record {
  parts = each_part (IsPartOfRectangle whole) rs parts (All-weaker (IsPartOfRectangle whole) (λ r. (t : Rectangle) → IsPartOfRectangle r t → IsPartOfRectangle whole t) (λ r is t also. part_of_part whole r t is also) rs tiles.parts) are;
  cover = λ point inside. let (r, member, there) = tiles.cover point inside in found_in point rs parts are r member there;
  apart = apart_all rs parts tiles.apart are;
  area = areas_all rs parts are ∙ tiles.area;
}
