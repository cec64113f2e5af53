-- forms worked by hand
use Rattle.std.proofs.Common.{◌≡◌, pos, negsuc, [], ◌∷◌, refl, slice_index_or, arith}
use Rattle.std.proofs.lemmas.Int.{ints}
use Rattle.charge_model.specs.declared.charge.Test.TheVariants.{AboveMinus, BelowPlus}
use Rattle.charge_model.specs.Problem.{Problem, Table, lo_in, hi_in}
use Rattle.linear_form.specs.Forms.{Linear, value_of, weight_of, IsFormOf, max_value}
use Rattle.linear_form.specs.Parts.{picked_below, constant_of}

-- 2 - 3·t(0) + t(1)
abbrev pub some_form : Linear
some_form = record { constant = pos 2; coefficients = negsuc 2 ∷ pos 1 ∷ [] }

-- a table of scale 10 with the numbers 51 and 105
abbrev pub some_table : Table
some_table = record { scale = 10; potential = λ c. slice_index_or (pos 51 ∷ pos 105 ∷ []) c (pos 0) }

-- two classes, from 5 to 6 and from 10 to 11, and no sites
abbrev pub two_classes : Problem
two_classes = record {
  sites = 0;
  base = 3;
  mu_minus = negsuc 59;
  mu_plus = negsuc 999;
  fixed_charges = [];
  pair_classes = [];
  near_classes = [];
  spans = record { lo = pos 5; hi = pos 6; in_order = omega (arith, ints) } ∷ record { lo = pos 10; hi = pos 11; in_order = omega (arith, ints) } ∷ [];
}

some_value : value_of some_form some_table ≡ negsuc 27
unfolding value_of
some_value = refl

some_weight : weight_of some_form.coefficients ≡ 4
some_weight = refl

-- class by class the least is -3·6 + 10, and the greatest -3·5 + 11
some_least : picked_below 2 some_form.coefficients (lo_in two_classes.spans) (hi_in two_classes.spans) ≡ negsuc 7
some_least = refl

some_greatest : picked_below 2 some_form.coefficients (hi_in two_classes.spans) (lo_in two_classes.spans) ≡ negsuc 3
some_greatest = refl

some_levels : (constant_of two_classes AboveMinus ≡ pos 60) × (constant_of two_classes BelowPlus ≡ negsuc 999)
some_levels = (refl, refl)

pub some_form_is : IsFormOf two_classes some_form
some_form_is = record { classes = refl; constant = omega arith; weight = omega arith }

greatest_value : max_value ≡ 40965000000000000
greatest_value = refl
