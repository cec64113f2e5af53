-- answers worked by hand: one site alone at the levels -2 to 0
use Rattle.std.proofs.Common.{◌≡◌, pos, neg_ℤ, [], ◌∷◌, refl, arith}
use Rattle.charge_model.proofs.OneSite.{one_site}
use Rattle.level_range_laws.specs.Parts.{printed_split, printed_at}
use Rattle.level_range_laws.proofs.StandardFacts.{three_levels, three_prefixes, negative, neutral, below_zero, at_zero, two_parts}
use Rattle.level_range.specs.declared.range_answer.RangeAnswer.TheVariants.{Budget}
use Rattle.level_range.specs.Seen.{entries_in}
use Rattle.level_range.specs.Answer.{HasFewCandidates, AreListed, IsAnswerOver, levels_of}

same_levels : levels_of (neg_ℤ (pos 2)) (pos 0) ≡ three_levels
same_levels = refl

two_entries : entries_in (printed_at (below_zero ∷ at_zero ∷ []) 1) ≡ negative ∷ neutral ∷ []
two_entries = refl

none_where_split : entries_in (printed_split (neg_ℤ (pos 2)) (pos 0)) ≡ []
none_where_split = refl

-- the limit is that of the range prefixes
over_two : IsAnswerOver one_site three_levels 2 Budget
over_two = let three = three_prefixes in omega (arith, three)

pub listed_within_three : HasFewCandidates one_site three_levels → AreListed one_site three_levels 3 (below_zero ∷ at_zero ∷ [])
listed_within_three few = let three = three_prefixes in record { within = omega (arith, three); few = few; printed = two_parts }
