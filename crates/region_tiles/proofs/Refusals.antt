-- each definition refuses a wrong value
use Rattle.std.proofs.Common.{◌≡◌, ℕ, pos, ◌+◌, ◌*◌, ◌<◌, ◌≤◌, List, [], ◌∷◌, refl, sym, ap, arith}
use Rattle.std.proofs.lemmas.Int.{ints}
use Rattle.model_params.specs.declared.params.Params.{Params}
use Rattle.model_params.specs.Quantities.{permittivity}
use Rattle.bdl_pairs.specs.declared.cell.CellAnswer.{CellAnswer}
use Rattle.bdl_pairs.specs.declared.cell.CellAnswer.TheVariants.{Works, Fails, Undecided}
use Rattle.parameter_regions.specs.declared.rectangles.Rectangle.{Rectangle}
use Rattle.region_tiles.specs.Alike.{AreAlike}
use Rattle.region_tiles.specs.declared.tiles.Tile.{Tile}
use Rattle.region_tiles.specs.Sides.{IsSideWithin, between}
use Rattle.region_tiles.specs.Rectangles.{HasSides, sides_of}
use Rattle.region_tiles.specs.Tiles.{AreTiles, IsPartOfRectangle, area_of}
use Rattle.region_tiles.specs.Refined.{IsRefined, tile_of}
use Rattle.region_tiles.proofs.StandardFacts.{params_at, rectangle_at, three_by_two}

-- sides out of range, and one that runs backwards
below_one : IsSideWithin permittivity (between 9999 20000) → ⊥
below_one is = omega (arith, ints, is.from)

above_hundred : IsSideWithin permittivity (between 20000 1000001) → ⊥
above_hundred is = omega (arith, ints, is.to)

backwards : IsSideWithin permittivity (between 30000 20000) → ⊥
backwards is = omega (arith, is.order)

-- other parameters are not alike
module _ (p q : Params) where
  other_base : p.base ≡ 2 → q.base ≡ 3 → AreAlike p q → ⊥
  other_base two three is = omega (arith, two, three, is.base)

  other_gap : p.gap ≡ pos 1 → q.gap ≡ pos 2 → AreAlike p q → ⊥
  other_gap one two is = omega (arith, ints, one, two, is.gap)

  other_depth : p.depth ≡ pos 1 → q.depth ≡ pos 2 → AreAlike p q → ⊥
  other_depth one two is = omega (arith, ints, one, two, is.depth)

  other_coulomb : p.coulomb ≡ pos 14000000 → q.coulomb ≡ pos 14000001 → AreAlike p q → ⊥
  other_coulomb one two is = omega (arith, ints, one, two, is.coulomb)

-- a rectangle that stands out on each side is no part
out_on_the_left : IsPartOfRectangle (rectangle_at 1 3 1 3 (omega arith) (omega arith) (omega arith) (omega arith)) (rectangle_at 0 3 1 3 (omega arith) (omega arith) (omega arith) (omega arith)) → ⊥
out_on_the_left is = let from = is.eps_from in omega (arith, from)

out_on_the_right : IsPartOfRectangle (rectangle_at 1 3 1 3 (omega arith) (omega arith) (omega arith) (omega arith)) (rectangle_at 1 4 1 3 (omega arith) (omega arith) (omega arith) (omega arith)) → ⊥
out_on_the_right is = let to = is.eps_to in omega (arith, to)

out_below : IsPartOfRectangle (rectangle_at 1 3 1 3 (omega arith) (omega arith) (omega arith) (omega arith)) (rectangle_at 1 3 0 3 (omega arith) (omega arith) (omega arith) (omega arith)) → ⊥
out_below is = let from = is.lam_from in omega (arith, from)

out_above : IsPartOfRectangle (rectangle_at 1 3 1 3 (omega arith) (omega arith) (omega arith) (omega arith)) (rectangle_at 1 3 1 4 (omega arith) (omega arith) (omega arith) (omega arith)) → ⊥
out_above is = let to = is.lam_to in omega (arith, to)

-- a rectangle left out, or one that stands twice, is no tiling
none_at_all : AreTiles three_by_two [] → ⊥
none_at_all are = let area : 0 ≡ 6 = are.area in omega (arith, area)

the_same_twice : AreTiles three_by_two (three_by_two ∷ three_by_two ∷ []) → ⊥
the_same_twice are = let area : 12 ≡ 6 = are.area in omega (arith, area)

-- another answer than what is said
abbrev says_works : Rectangle → CellAnswer → Type 0
says_works r a = a ≡ Works

abbrev first_answer : List Tile → CellAnswer
first_answer [] = Works
first_answer (t ∷ ts) = t.answer

another_answer : (r : Rectangle) → IsRefined says_works 0 r (tile_of r (Fails 0) ∷ []) → ⊥
another_answer r is = let answers : Fails 0 ≡ is.answer = ap first_answer is.tile in absurd (cc (answers, is.said))
