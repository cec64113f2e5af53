-- what tokens are answered at prefixes of two neighbours, worked by hand
use Rattle.std.proofs.Common.{pos, [], Some, None, refl, arith}
use Rattle.charge_model.proofs.StandardFacts.{neighbours}
use Rattle.certificate_model.specs.declared.token.Token.TheVariants.{Node, Listed}
use Rattle.certificate_model.specs.declared.refusal.CloseWhy.TheVariants.{Shape, Number}
use Rattle.certificate_model.proofs.TwoNeighbours.{left, two_lists, node}
use Rattle.certificate_model.proofs.Passing.{node_passes}
use Rattle.certificate_model.proofs.Failing.{fails_shape, fails_number}
use Rattle.token_tests.specs.Testing.{IsTested, IsTestedAnyway, AsksForFull}

more_may_follow : IsTested neighbours (pos 0) two_lists [] Node None
more_may_follow = node [] (omega arith)

more_may_follow_anyway : IsTestedAnyway neighbours [] Node None
more_may_follow_anyway window l = node_passes neighbours window l [] (omega arith)

none_follows_a_full_prefix : IsTestedAnyway neighbours left Node (Some Shape)
none_follows_a_full_prefix window l = fails_shape neighbours window l left Node (λ less. omega (arith, less))

no_such_entry : IsTested neighbours (pos 0) two_lists left (Listed 2) (Some Number)
no_such_entry = fails_number neighbours (pos 0) two_lists left (Listed 2) refl (λ less. omega (arith, less))

entries_are_full : AsksForFull (Listed 0)
entries_are_full = tt
