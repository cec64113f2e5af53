-- a token that passes is not refused, one that fails its second test does not fail its first, and a node asks for no full prefix
use Rattle.std.proofs.Common.{pos, [], Some, None, refl, arith}
use Rattle.charge_model.proofs.StandardFacts.{neighbours}
use Rattle.certificate_model.specs.declared.token.Token.TheVariants.{Node, Listed}
use Rattle.certificate_model.specs.declared.refusal.CloseWhy.TheVariants.{Shape, Number}
use Rattle.certificate_model.proofs.TwoNeighbours.{left, two_lists}
use Rattle.token_tests.specs.Testing.{IsTested, IsTestedAnyway, AsksForFull}

not_refused : IsTestedAnyway neighbours [] Node (Some Shape) → ⊥
not_refused told = (told (pos 0) []).fails (omega arith)

not_accepted : IsTested neighbours (pos 0) two_lists left (Listed 2) None → ⊥
not_accepted passes = let entry = passes Number in omega (arith, entry)

not_by_its_shape : IsTested neighbours (pos 0) two_lists left (Listed 2) (Some Shape) → ⊥
not_by_its_shape told = told.fails refl

nodes_ask_for_room : AsksForFull Node → ⊥
nodes_ask_for_room asks = asks
