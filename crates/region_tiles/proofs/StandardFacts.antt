-- sides, rectangles, tiles and areas worked by hand
use Rattle.std.proofs.Common.{◌≡◌, ℕ, pos, ◌+◌, ◌≤◌, true, List, [], ◌∷◌, refl, arith}
use Rattle.std.specs.Prelude.{All}
use Rattle.std.proofs.lemmas.Int.{ints}
use Rattle.model_params.specs.declared.params.Params.{Params}
use Rattle.model_params.specs.Params.{AreParamsInRange}
use Rattle.model_params.specs.Quantities.{permittivity}
use Rattle.gate_model.specs.declared.grid.Axis.{Axis}
use Rattle.bdl_pairs.specs.declared.cell.CellAnswer.{CellAnswer}
use Rattle.bdl_pairs.specs.declared.cell.CellAnswer.TheVariants.{Works, Fails, Undecided, Budget, Long}
use Rattle.parameter_regions.specs.declared.rectangles.Rectangle.{Rectangle}
use Rattle.region_tiles.specs.declared.sides.Side.{Side}
use Rattle.region_tiles.specs.declared.tiles.Tile.{Tile}
use Rattle.region_tiles.specs.Sides.{IsSideWithin, between, halves_of, is_cut, whole_side, steps_of}
use Rattle.region_tiles.specs.Rectangles.{AreParts, HasSides, can_be_cut, eps_side, lam_side, rows_of, sides_of}
use Rattle.region_tiles.specs.Tiles.{AreTiles, area_of}
use Rattle.region_tiles.specs.Areas.{failing_area, open_area, whole_area, working_area}
use Rattle.region_tiles.specs.Refined.{IsRefined, tile_of}
use Rattle.region_tiles.proofs.RefinedLemmas.{parts_tile}

-- three units are cut into one and two, and one unit is not cut
three_units : halves_of (between 50000 50003) ≡ between 50000 50001 ∷ between 50001 50003 ∷ []
three_units = refl

one_unit : halves_of (between 50000 50001) ≡ between 50000 50001 ∷ []
one_unit = refl

in_range : IsSideWithin permittivity (between 50000 50003)
in_range = record { from = omega (arith, ints); order = omega arith; to = omega (arith, ints) }

-- two steps of an eighth from 5
abbrev eighths : Axis
eighths = record { start = pos 50000; step = pos 1250; count = 2 }

two_steps : steps_of eighths ≡ between 50000 51250 ∷ between 51250 52500 ∷ []
two_steps = refl

the_whole_of_them : whole_side eighths ≡ between 50000 52500
the_whole_of_them = refl

-- permittivity is outer
in_rows : (a b x y : Side) → rows_of (a ∷ b ∷ []) (x ∷ y ∷ []) ≡ sides_of a x ∷ sides_of a y ∷ sides_of b x ∷ sides_of b y ∷ []
in_rows a b x y = refl

-- the parameters of a permittivity and a screening length from 4 to 6 and from 4 nm to 6 nm
abbrev pub params_at : (eps lam : ℕ) → 40000 ≤ eps → eps ≤ 60000 → 40000 ≤ lam → lam ≤ 60000 → Params
params_at eps lam eps_from eps_to lam_from lam_to = record {
  coulomb = pos 14399645;
  eps = pos eps;
  lam = pos lam;
  depth = pos 320000000000;
  gap = pos 590000000000;
  base = 3;
  in_range = record {
    coulomb_within = record { from = omega (arith, ints); to = omega (arith, ints) };
    eps_within = record { from = omega (arith, ints, eps_from); to = omega (arith, ints, eps_to) };
    lam_within = record { from = omega (arith, ints, lam_from); to = omega (arith, ints, lam_to) };
    depth_within = record { from = omega (arith, ints); to = omega (arith, ints) };
    gap_within = record { from = omega (arith, ints); to = omega (arith, ints) };
    base_from = omega arith;
    base_to = omega arith;
  };
}

-- a rectangle from one unit to another, above 5 and above 4 nm
abbrev pub rectangle_at : (a b c d : ℕ) → a ≤ b → b ≤ 10000 → c ≤ d → d ≤ 10000 → Rectangle
rectangle_at a b c d eps eps_to lam lam_to = record {
  weakest = params_at (50000 + b) (40000 + c) (omega arith) (omega (arith, eps_to)) (omega arith) (omega (arith, lam, lam_to));
  strongest = params_at (50000 + a) (40000 + d) (omega arith) (omega (arith, eps, eps_to)) (omega arith) (omega (arith, lam_to));
  are_corners = record { coulomb = refl; eps = omega (arith, ints, eps); lam = omega (arith, ints, lam); depth = refl; gap = refl; base = refl };
}

-- of three by two units
abbrev pub three_by_two : Rectangle
three_by_two = rectangle_at 0 3 0 2 (omega arith) (omega arith) (omega arith) (omega arith)

abbrev first_quarter : Rectangle
first_quarter = rectangle_at 0 1 0 1 (omega arith) (omega arith) (omega arith) (omega arith)

abbrev second_quarter : Rectangle
second_quarter = rectangle_at 0 1 1 2 (omega arith) (omega arith) (omega arith) (omega arith)

abbrev third_quarter : Rectangle
third_quarter = rectangle_at 1 3 0 1 (omega arith) (omega arith) (omega arith) (omega arith)

abbrev fourth_quarter : Rectangle
fourth_quarter = rectangle_at 1 3 1 2 (omega arith) (omega arith) (omega arith) (omega arith)

its_area : area_of three_by_two ≡ 6
its_area = refl

it_can_be_cut : can_be_cut three_by_two ≡ true
it_can_be_cut = refl

its_parts : AreParts three_by_two (first_quarter ∷ second_quarter ∷ third_quarter ∷ fourth_quarter ∷ [])
its_parts = (record { alike = record { coulomb = refl; depth = refl; gap = refl; base = refl }; eps = refl; lam = refl }, (record { alike = record { coulomb = refl; depth = refl; gap = refl; base = refl }; eps = refl; lam = refl }, (record { alike = record { coulomb = refl; depth = refl; gap = refl; base = refl }; eps = refl; lam = refl }, (record { alike = record { coulomb = refl; depth = refl; gap = refl; base = refl }; eps = refl; lam = refl }, tt))))

they_tile_it : AreTiles three_by_two (first_quarter ∷ second_quarter ∷ third_quarter ∷ fourth_quarter ∷ [])
they_tile_it = parts_tile three_by_two (first_quarter ∷ second_quarter ∷ third_quarter ∷ fourth_quarter ∷ []) its_parts

-- one unit by one unit is not cut, whatever its answer
abbrev pub says_open : Rectangle → CellAnswer → Type 0
says_open r a = a ≡ Undecided 2

stays_whole : IsRefined says_open 6 first_quarter (tile_of first_quarter (Undecided 2) ∷ [])
stays_whole = record { answer = Undecided 2; said = refl; tiled = refl }

-- areas of a part that works, one that fails, and three that stay open
abbrev pub five_tiles : List Tile
five_tiles =
    tile_of third_quarter Works ∷ tile_of first_quarter (Fails 0) ∷ tile_of second_quarter (Budget 1) ∷ tile_of fourth_quarter (Long 3)
    ∷ tile_of three_by_two (Undecided 2) ∷ []

two_work : working_area five_tiles ≡ 2
two_work = refl

one_fails : failing_area five_tiles ≡ 1
one_fails = refl

nine_open : open_area five_tiles ≡ 9
nine_open = refl

twelve_in_all : whole_area five_tiles ≡ 12
twelve_in_all = refl
