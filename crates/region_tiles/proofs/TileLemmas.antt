-- parts of parts, and a rectangle as its own tile
use Rattle.std.proofs.Common.{◌∙◌, ℕ, ◌*◌, ◌≤◌, [], ◌∷◌, refl, arith}
use Rattle.std.proofs.Math.Nat.{mul-le-mul_right}
use Rattle.std.proofs.lemmas.List.Elements.{All-cons, All-nil}
use Rattle.screened_coulomb.specs.Potential.{eps_of, lam_of}
use Rattle.parameter_regions.specs.declared.rectangles.Rectangle.{Rectangle}
use Rattle.parameter_regions.specs.Points.{Point}
use Rattle.parameter_regions.specs.Rectangles.{IsInRectangle}
use Rattle.region_tiles.specs.Alike.{AreAlike}
use Rattle.region_tiles.specs.Tiles.{AreTiles, IsInside, IsPartOfRectangle}

-- a border times the parts of a point
border : (a b parts : ℕ) → a ≤ b → a * parts ≤ b * parts
border a b parts le = mul-le-mul_right parts le

pub in_whole : (whole part : Rectangle) (point : Point) → IsPartOfRectangle whole part → IsInRectangle part point → IsInRectangle whole point
in_whole whole part point is inside =
    let a = border (eps_of whole.strongest) (eps_of part.strongest) point.parts is.eps_from in
    let b = border (eps_of part.weakest) (eps_of whole.weakest) point.parts is.eps_to in
    let c = border (lam_of whole.weakest) (lam_of part.weakest) point.parts is.lam_from in
    let d = border (lam_of part.strongest) (lam_of whole.strongest) point.parts is.lam_to in
    record {
      some = inside.some;
      eps_from = omega (arith, a, inside.eps_from);
      eps_to = omega (arith, b, inside.eps_to);
      lam_from = omega (arith, c, inside.lam_from);
      lam_to = omega (arith, d, inside.lam_to);
    }

pub inside_whole : (whole part : Rectangle) (point : Point) → IsPartOfRectangle whole part → IsInside part point → IsInside whole point
inside_whole whole part point is inside =
    let a = border (eps_of whole.strongest) (eps_of part.strongest) point.parts is.eps_from in
    let b = border (eps_of part.weakest) (eps_of whole.weakest) point.parts is.eps_to in
    let c = border (lam_of whole.weakest) (lam_of part.weakest) point.parts is.lam_from in
    let d = border (lam_of part.strongest) (lam_of whole.strongest) point.parts is.lam_to in
    record {
      eps_from = omega (arith, a, inside.eps_from);
      eps_to = omega (arith, b, inside.eps_to);
      lam_from = omega (arith, c, inside.lam_from);
      lam_to = omega (arith, d, inside.lam_to);
    }

alike_itself : (r : Rectangle) → AreAlike r.weakest r.weakest
alike_itself r = record { coulomb = refl; depth = refl; gap = refl; base = refl }

part_itself : (r : Rectangle) → IsPartOfRectangle r r
part_itself r = record { alike = alike_itself r; eps_from = omega arith; eps_to = omega arith; lam_from = omega arith; lam_to = omega arith }

pub part_of_part : (whole half part : Rectangle) → IsPartOfRectangle whole half → IsPartOfRectangle half part → IsPartOfRectangle whole part
part_of_part whole half part outer inner = record {
  alike = record {
    coulomb = inner.alike.coulomb ∙ outer.alike.coulomb;
    depth = inner.alike.depth ∙ outer.alike.depth;
    gap = inner.alike.gap ∙ outer.alike.gap;
    base = inner.alike.base ∙ outer.alike.base;
  };
  eps_from = omega (arith, inner.eps_from, outer.eps_from);
  eps_to = omega (arith, inner.eps_to, outer.eps_to);
  lam_from = omega (arith, inner.lam_from, outer.lam_from);
  lam_to = omega (arith, inner.lam_to, outer.lam_to);
}

-- a rectangle tiles itself
pub one_tile : (r : Rectangle) → AreTiles r (r ∷ [])
one_tile r = record {
  parts = All-cons (IsPartOfRectangle r) r [] (part_itself r) (All-nil (IsPartOfRectangle r));
  cover = λ point inside. (r, (0, omega arith, refl), inside);
  apart = λ i j d less within. absurd (omega (arith, less, within));
  area = omega arith;
}
