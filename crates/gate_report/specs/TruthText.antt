-- the truth text: the answer to each pattern of a gate, as lines of words
use Rattle.std.specs.Prelude.{ℕ, ◌+◌, List, [], ◌∷◌, ◌++◌, length, map, codes, decimal}
use Rattle.text_rows.specs.Rows.{text_of}
use Rattle.entry_lines.specs.EntryLines.{entry_words}
use Rattle.gate_model.specs.Logic.{Logic}
use Rattle.bdl_pairs.specs.declared.truth.PatternAnswer.{PatternAnswer}
use Rattle.gate_report.specs.Answers.{answer_text, bit_word, overall, verdict_word}

-- what the text is, the name of the function, and how many inputs and outputs the gate has
abbrev pub truth_title_rows : List ℕ → Logic → List (List (List ℕ))
truth_title_rows name gate = (codes "sidb-truth" ∷ codes "1" ∷ []) ∷ (codes "function" ∷ name ∷ [])
    ∷ (codes "inputs" ∷ decimal (length gate.inputs) ∷ [])
    ∷ (codes "outputs" ∷ decimal (length gate.outputs) ∷ []) ∷ []

-- the line of a pattern: the bit that it wants, its verdict, and how many entries its list has
abbrev pub pattern_row : ℕ → PatternAnswer → List (List ℕ)
pattern_row k a = codes "pattern" ∷ decimal k ∷ codes "wants" ∷ bit_word a.wanted
    ∷ verdict_word a.verdict ∷ codes "entries" ∷ decimal (length a.list) ∷ []

-- the lines of the patterns from k on, each before those of its entries
abbrev pub pattern_rows : ℕ → List PatternAnswer → List (List (List ℕ))
pattern_rows k [] = []
pattern_rows k (a ∷ later) =
    (pattern_row k a ∷ map entry_words a.list) ++ pattern_rows (k + 1) later

-- what the gate does, and the end
abbrev pub verdict_rows : List PatternAnswer → List (List (List ℕ))
verdict_rows t = (codes "verdict" ∷ answer_text (overall 0 t) ∷ []) ∷ (codes "end" ∷ []) ∷ []

-- the whole text
abbrev pub truth_text : List ℕ → Logic → List PatternAnswer → List ℕ
truth_text name gate t = text_of (truth_title_rows name gate
    ++ (pattern_rows 0 t ++ verdict_rows t))
