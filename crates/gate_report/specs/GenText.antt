-- the summary of a generated layout
use Rattle.std.specs.Prelude.{ℕ, List, [], ◌∷◌, length, codes, decimal}
use Rattle.std.specs.List.{count_by}
use Rattle.charge_model.specs.GroundList.{Entry, is_certain}
use Rattle.text_rows.specs.Rows.{text_of}
use Rattle.ground_entries.specs.declared.ground_list.Solved.{Solved}

-- how many entries are certain
abbrev pub count_certain : List Entry → ℕ
count_certain es = count_by (λ e. is_certain e.mark) es

-- a line of a word and a number
abbrev pub counted_row : List ℕ → ℕ → List (List ℕ)
counted_row word n = word ∷ decimal n ∷ []

-- the whole text
abbrev pub gen_text : ℕ → ℕ → Solved → List ℕ
gen_text number sites s = text_of ((codes "sidb-gen" ∷ codes "1" ∷ [])
    ∷ counted_row (codes "number") number
    ∷ counted_row (codes "sites") sites ∷ counted_row (codes "nodes") s.nodes
    ∷ counted_row (codes "entries") (length s.list)
    ∷ counted_row (codes "certain") (count_certain s.list)
    ∷ (codes "end" ∷ []) ∷ [])
