-- texts that say something else
use Rattle.std.proofs.Common.{◌≡◌, pos, neg_ℤ, []}
use Rattle.std.specs.Fmt.{digits}
use Rattle.level_range_laws.specs.Parts.{Printed, printed_whole, printed_split}
use Rattle.range_report.specs.RangeText.{range_text, part_row, certain_word}
use Rattle.std.specs.Prelude.{ℕ, List, true, false}

-- a split part is not one without entries
split_is_named : part_row (printed_split (neg_ℤ (pos 2)) (pos 0)) ≡ part_row (printed_whole (neg_ℤ (pos 2)) (pos 0) []) → ⊥
unfolding digits
split_is_named is = absurd (cc)

marks_differ : certain_word true ≡ certain_word false → ⊥
marks_differ is = absurd (cc)

no_empty_text : (sites : ℕ) (parts : List Printed) → range_text sites parts ≡ [] → ⊥
no_empty_text sites parts is = absurd (cc)
