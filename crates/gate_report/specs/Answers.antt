-- what a gate does, in words
use Rattle.std.specs.Prelude.{ℕ, ◌+◌, Bool, true, false, List, [], ◌∷◌, codes, decimal}
use Rattle.std.specs.List.{join_with_byte}
use Rattle.bdl_pairs.specs.declared.verdicts.PatternVerdict.{PatternVerdict}
use Rattle.bdl_pairs.specs.declared.verdicts.PatternVerdict.TheVariants.{Works as PatternWorks, Fails as PatternFails, Undecided as PatternUndecided}
use Rattle.bdl_pairs.specs.declared.truth.PatternAnswer.{PatternAnswer}
use Rattle.bdl_pairs.specs.declared.cell.CellAnswer.{CellAnswer}
use Rattle.bdl_pairs.specs.declared.cell.CellAnswer.TheVariants.{Works, Fails, Undecided, Budget, Long}

-- the word of a verdict
abbrev pub verdict_word : PatternVerdict → List ℕ
verdict_word PatternWorks = codes "works"
verdict_word PatternFails = codes "fails"
verdict_word PatternUndecided = codes "undecided"

-- the number of a bit
abbrev pub bit_number : Bool → ℕ
bit_number false = 0
bit_number true = 1

-- the word of a bit
abbrev pub bit_word : Bool → List ℕ
bit_word false = codes "0"
bit_word true = codes "1"

-- a word and the number of a pattern
abbrev pub at_pattern : List ℕ → ℕ → List ℕ
at_pattern word k = join_with_byte 32 (word ∷ decimal k ∷ [])

-- what a gate does: it works, or why it does not, and the first pattern that does not
abbrev pub answer_text : CellAnswer → List ℕ
answer_text Works = codes "works"
answer_text (Fails k) = at_pattern (codes "fails") k
answer_text (Undecided k) = at_pattern (codes "undecided") k
answer_text (Budget k) = at_pattern (codes "budget") k
answer_text (Long k) = at_pattern (codes "long") k

-- the answer at pattern k, or that of the later ones where it works
abbrev pub verdict_or : PatternVerdict → ℕ → CellAnswer → CellAnswer
verdict_or PatternWorks k later = later
verdict_or PatternFails k later = Fails k
verdict_or PatternUndecided k later = Undecided k

-- what the patterns from k on do: the first that does not work is named
abbrev pub overall : ℕ → List PatternAnswer → CellAnswer
overall k [] = Works
overall k (a ∷ later) = verdict_or a.verdict k (overall (k + 1) later)
