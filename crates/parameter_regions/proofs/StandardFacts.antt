-- points of a rectangle, a potential at one, and a table, worked by hand
use Rattle.std.proofs.Common.{◌*◌, ◌^◌, pos, refl, arith}
use Rattle.std.proofs.lemmas.Int.{ints}
use Rattle.root_exp.specs.Series.{divisor_of, series_sum}
use Rattle.model_params.specs.declared.params.Params.{Params}
use Rattle.screened_coulomb.proofs.StandardFacts.{usual, with_lam}
use Rattle.parameter_regions.specs.declared.rectangles.Rectangle.{Rectangle}
use Rattle.parameter_regions.specs.Points.{IsPotentialAt, point_of}
use Rattle.parameter_regions.specs.Rectangles.{IsInRectangle}

-- from 4.9 to 5 nm at the permittivity 5.6
abbrev pub less_screening : Params
less_screening = with_lam (pos 49000) (record { from = omega (arith, ints); to = omega (arith, ints) })

abbrev pub narrow : Rectangle
narrow = record {
  weakest = less_screening;
  strongest = usual;
  are_corners = record { coulomb = refl; eps = omega (arith, ints); lam = omega (arith, ints); depth = refl; gap = refl; base = refl };
}

-- its borders are points of it, and so is a third of the way, which is no whole parameter
first_border : IsInRectangle narrow (record { parts = 1; eps = 56000; lam = 49000 })
first_border = record { some = omega arith; eps_from = omega arith; eps_to = omega arith; lam_from = omega arith; lam_to = omega arith }

last_border : IsInRectangle narrow (point_of usual)
last_border = record { some = omega arith; eps_from = omega arith; eps_to = omega arith; lam_from = omega arith; lam_to = omega arith }

between : IsInRectangle narrow (record { parts = 3; eps = 3 * 56000; lam = 148000 })
between = record { some = omega arith; eps_from = omega arith; eps_to = omega arith; lam_from = omega arith; lam_to = omega arith }

-- neighbours along a row at the usual point: a potential to 21 places after the unit,
-- 0.620124254312834439027117687670770 V
near_potential : IsPotentialAt (14399645 * 10 ^ 12) (point_of usual) (384 * 384) (10 ^ 21) (pos 620124254312834439027117687670770)
unfolding divisor_of series_sum
near_potential = record {
  order = 96;
  root = 384 * 2 ^ 96;
  enough = omega arith;
  of_root = record { root = omega arith; greatest = omega arith };
  lies = record { above = record { le = tt }; below = record { le = tt } };
}
