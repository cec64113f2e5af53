-- the text of the printed parts of an interval of levels, as lines of words
use Rattle.std.specs.Prelude.{ℕ, Bool, true, false, Option, None, Some, List, [], ◌∷◌, ◌++◌, length, map, codes, decimal}
use Rattle.std.specs.Fmt.{signed_decimal}
use Rattle.charge_state.specs.Text.{charges_text}
use Rattle.text_rows.specs.Rows.{text_of, end_rows}
use Rattle.level_range_laws.specs.Answers.{Outcome}
use Rattle.level_range_laws.specs.Parts.{Printed}
use Rattle.level_range.specs.Seen.{entries_in}

-- whether an entry is certain
abbrev pub certain_word : Bool → List ℕ
certain_word true = codes "certain"
certain_word false = codes "unresolved"

-- the line of an entry: its charges, and whether it is certain
abbrev pub outcome_row : Outcome → List (List ℕ)
outcome_row o = charges_text o.charges ∷ certain_word o.certain ∷ []

-- what stands behind the levels of a part: that it is split, or how many entries it has
abbrev pub end_words : Option (List Outcome) → List (List ℕ)
end_words None = codes "split" ∷ []
end_words (Some answer) = codes "entries" ∷ decimal (length answer) ∷ []

-- the line of a part: its first and last level, in 10^-12 V, and what stands behind them
abbrev pub part_row : Printed → List (List ℕ)
part_row x =
    codes "part" ∷ signed_decimal x.first ∷ signed_decimal x.last ∷ end_words x.answer

-- the lines of a part: its own, and those of its entries
abbrev pub part_rows : Printed → List (List (List ℕ))
part_rows x = part_row x ∷ map outcome_row (entries_in x)

-- the lines of all parts
abbrev pub parts_rows : List Printed → List (List (List ℕ))
parts_rows [] = []
parts_rows (x ∷ later) = part_rows x ++ parts_rows later

-- the first three lines: the kind, how many sites there are, and how many parts
abbrev pub range_title_rows : ℕ → ℕ → List (List (List ℕ))
range_title_rows sites parts = (codes "sidb-range" ∷ codes "1" ∷ [])
    ∷ (codes "sites" ∷ decimal sites ∷ []) ∷ (codes "parts" ∷ decimal parts ∷ []) ∷ []

-- the whole text
abbrev pub range_text : ℕ → List Printed → List ℕ
range_text sites parts =
    text_of (range_title_rows sites (length parts) ++ (parts_rows parts ++ end_rows))
