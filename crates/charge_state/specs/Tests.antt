-- the tests of a charge, in order
use Rattle.std.specs.Prelude.{List, [], ◌∷◌}
use Rattle.charge_model.specs.declared.charge.Charge.{Charge}
use Rattle.charge_model.specs.declared.charge.Charge.TheVariants.{Neg, Neutral, Pos}
use Rattle.charge_model.specs.declared.charge.Test.{Test}
use Rattle.charge_model.specs.declared.charge.Test.TheVariants.{AboveMinus, AbovePlus, BelowMinus, BelowPlus}

-- the tests that a site of this charge must pass, in the order in which they are made
abbrev pub tests_of : Charge → List Test
tests_of Neg = AboveMinus ∷ []
tests_of Neutral = AbovePlus ∷ BelowMinus ∷ []
tests_of Pos = BelowPlus ∷ []
