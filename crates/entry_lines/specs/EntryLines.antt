-- the line of an entry: its charges and its mark, as words
use Rattle.std.specs.Prelude.{ℕ, ◌<◌, ◌^◌, List, [], ◌∷◌, codes, decimal, unsigned_abs}
use Rattle.std.specs.Fmt.{signed_decimal}
use Rattle.charge_model.specs.declared.span.Span.{Span}
use Rattle.charge_model.specs.declared.charge.Test.{Test}
use Rattle.charge_model.specs.declared.charge.Test.TheVariants.{AboveMinus, AbovePlus, BelowMinus, BelowPlus}
use Rattle.charge_model.specs.declared.mark.Deciding.{Deciding}
use Rattle.charge_model.specs.declared.mark.Deciding.TheVariants.{Population, Hop, Rival}
use Rattle.charge_model.specs.declared.mark.Mark.{Mark}
use Rattle.charge_model.specs.declared.mark.Mark.TheVariants.{Certain, Unresolved}
use Rattle.charge_model.specs.GroundList.{Entry}
use Rattle.charge_state.specs.Text.{charges_text}

-- the word of a test
abbrev pub test_word : Test → List ℕ
test_word AboveMinus = codes "above-minus"
test_word AbovePlus = codes "above-plus"
test_word BelowMinus = codes "below-minus"
test_word BelowPlus = codes "below-plus"

-- the least and the greatest of a quantity, in 10^-12 V
abbrev pub span_words : Span → List (List ℕ)
span_words s = signed_decimal s.lo ∷ signed_decimal s.hi ∷ []

-- what decides that an entry is not certain, with its least and greatest slack
abbrev pub deciding_words : Deciding → List (List ℕ)
deciding_words (Population i k s) =
    codes "population" ∷ decimal i ∷ test_word k ∷ span_words s
deciding_words (Hop i j s) = codes "hop" ∷ decimal i ∷ decimal j ∷ span_words s
deciding_words (Rival j s) = codes "rival" ∷ decimal j ∷ span_words s

-- a mark
abbrev pub mark_words : Mark → List (List ℕ)
mark_words Certain = codes "certain" ∷ []
mark_words (Unresolved d) = codes "unresolved" ∷ deciding_words d

-- the line of an entry: its charges and its mark
abbrev pub entry_words : Entry → List (List ℕ)
entry_words e = charges_text e.charges ∷ mark_words e.mark

-- the ends of a span fit 64 bits with a sign
pub record FitsSpan (s : Span) : Type 0 where
  pub least : unsigned_abs s.lo < 2 ^ 63
  pub greatest : unsigned_abs s.hi < 2 ^ 63

-- the numbers of a deciding comparison fit their types
abbrev pub FitsDeciding : Deciding → Type 0
FitsDeciding (Population i k s) = (i < 2 ^ 64) × FitsSpan s
FitsDeciding (Hop i j s) = (i < 2 ^ 64) × (j < 2 ^ 64) × FitsSpan s
FitsDeciding (Rival j s) = (j < 2 ^ 64) × FitsSpan s

-- the numbers of a mark fit their types
abbrev pub FitsMark : Mark → Type 0
FitsMark Certain = Unit {0}
FitsMark (Unresolved d) = FitsDeciding d
