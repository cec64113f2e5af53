-- what is no answer at a level, and no list of printed parts
use Rattle.std.proofs.Common.{◌≡◌, pos, neg_ℤ, [], ◌∷◌, ap, arith, true, false}
use Rattle.std.proofs.lemmas.Int.{ints}
use Rattle.std.proofs.lemmas.Bool.{false≢true}
use Rattle.charge_model.specs.declared.charge.Charge.TheVariants.{Neg}
use Rattle.charge_model.proofs.OneSite.{one_site}
use Rattle.level_range_laws.specs.Levels.{at_level, IsIn}
use Rattle.level_range_laws.specs.Answers.{Outcome, IsAnswerAt}
use Rattle.level_range_laws.specs.Parts.{ArePrinted, printed_whole, printed_split}
use Rattle.level_range_laws.specs.RangePrefixes.{range_prefix_count}
use Rattle.level_range_laws.proofs.OneAnswer.{one_answer, one_printed}
use Rattle.level_range_laws.proofs.StandardFacts.{three_levels, three_prefixes, negative, neutral, answer_below, answer_at_zero, below_zero, at_zero, two_parts}

-- mu_plus does not stay
mu_plus_moves : (at_level one_site (neg_ℤ (pos 2))).mu_plus ≡ one_site.mu_plus → ⊥
mu_plus_moves e = omega (arith, ints, e)

last_level_counts : IsIn three_levels (pos 1) → ⊥
last_level_counts inside = let to = inside.to in omega (arith, ints, to)

no_prefix_lost : range_prefix_count one_site three_levels ≡ 2 → ⊥
no_prefix_lost e = let three = three_prefixes in omega (arith, three, e)

-- an entry is missing, or is not certain
no_entry_lost : IsAnswerAt one_site (pos 0) (negative ∷ []) → ⊥
no_entry_lost is = let same = one_answer one_site (pos 0) (negative ∷ []) (negative ∷ neutral ∷ []) is answer_at_zero in absurd (cc)

abbrev doubted : Outcome
doubted = record { charges = Neg ∷ []; certain = false }

no_doubt : IsAnswerAt one_site (neg_ℤ (pos 1)) (doubted ∷ []) → ⊥
no_doubt is = let same = one_answer one_site (neg_ℤ (pos 1)) (doubted ∷ []) (negative ∷ []) is (answer_below (neg_ℤ (pos 1)) (omega (arith, ints))) in
    let first : doubted ≡ negative = cc in
    let bit : false ≡ true = ap (λ (o : Outcome). o.certain) first in absurd (false≢true bit)

-- a part is one level short at an end
no_short_part : ArePrinted one_site three_levels (printed_whole (neg_ℤ (pos 2)) (neg_ℤ (pos 2)) (negative ∷ []) ∷ at_zero ∷ []) → ⊥
no_short_part are =
    let same = one_printed one_site three_levels (printed_whole (neg_ℤ (pos 2)) (neg_ℤ (pos 2)) (negative ∷ []) ∷ at_zero ∷ []) (below_zero ∷ at_zero ∷ []) are two_parts in
    absurd (cc)

-- two runs with one answer are one part, and few parts are not split
no_part_cut : ArePrinted one_site three_levels (printed_whole (neg_ℤ (pos 2)) (neg_ℤ (pos 2)) (negative ∷ []) ∷ printed_whole (neg_ℤ (pos 1)) (neg_ℤ (pos 1)) (negative ∷ []) ∷ at_zero ∷ []) → ⊥
no_part_cut are =
    let same = one_printed one_site three_levels (printed_whole (neg_ℤ (pos 2)) (neg_ℤ (pos 2)) (negative ∷ []) ∷ printed_whole (neg_ℤ (pos 1)) (neg_ℤ (pos 1)) (negative ∷ []) ∷ at_zero ∷ []) (below_zero ∷ at_zero ∷ []) are two_parts in
    absurd (cc)

no_split_part : ArePrinted one_site three_levels (printed_split (neg_ℤ (pos 2)) (pos 0) ∷ []) → ⊥
no_split_part are = let same = one_printed one_site three_levels (printed_split (neg_ℤ (pos 2)) (pos 0) ∷ []) (below_zero ∷ at_zero ∷ []) are two_parts in absurd (cc)
