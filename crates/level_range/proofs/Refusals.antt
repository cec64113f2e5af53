-- what is no answer
use Rattle.std.proofs.Common.{[], ◌∷◌, arith}
use Rattle.charge_model.proofs.OneSite.{one_site}
use Rattle.level_range_laws.proofs.OneAnswer.{one_printed}
use Rattle.level_range_laws.proofs.StandardFacts.{three_levels, three_prefixes, below_zero, at_zero, two_parts}
use Rattle.level_range.specs.declared.range_answer.RangeAnswer.TheVariants.{Budget, ListTooLong}
use Rattle.level_range.specs.Answer.{AreListed, IsAnswerOver}

not_over_three : IsAnswerOver one_site three_levels 3 Budget → ⊥
not_over_three over = let three = three_prefixes in omega (arith, three, over)

not_long_over_two : IsAnswerOver one_site three_levels 2 ListTooLong → ⊥
not_long_over_two long = let three = three_prefixes in let within = long.0 in omega (arith, three, within)

not_listed_over_two : AreListed one_site three_levels 2 (below_zero ∷ at_zero ∷ []) → ⊥
not_listed_over_two listed = let three = three_prefixes in let within = listed.within in omega (arith, three, within)

no_part_lost : AreListed one_site three_levels 3 (below_zero ∷ []) → ⊥
no_part_lost listed = let same = one_printed one_site three_levels (below_zero ∷ []) (below_zero ∷ at_zero ∷ []) listed.printed two_parts in absurd (cc)
