-- what is no form of a problem
use Rattle.std.proofs.Common.{pos, negsuc, [], ◌∷◌, arith}
use Rattle.linear_form.specs.Forms.{IsFormOf}
use Rattle.linear_form.proofs.StandardFacts.{two_classes, some_form}

wrong_classes : IsFormOf two_classes (record some_form { coefficients = pos 1 ∷ [] }) → ⊥
wrong_classes is = omega (arith, is.classes)

large_constant : IsFormOf two_classes (record some_form { constant = negsuc 5000000000000 }) → ⊥
large_constant is = omega (arith, is.constant)

large_weight : IsFormOf two_classes (record some_form { coefficients = pos 4000 ∷ negsuc 96 ∷ [] }) → ⊥
large_weight is = omega (arith, is.weight)
