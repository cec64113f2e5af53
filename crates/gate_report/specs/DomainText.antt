-- the domain text: what a gate does at each point of a grid, as lines of words
use Rattle.std.specs.Prelude.{ℕ, pos, ◌≤ℤ◌, List, [], ◌∷◌, ◌++◌, map, codes, unsigned_abs}
use Rattle.text_rows.specs.Rows.{text_of}
use Rattle.sidb_units.specs.Decimal.{decimal_text}
use Rattle.bdl_pairs.specs.declared.cell.Cell.{Cell}
use Rattle.gate_report.specs.Answers.{answer_text}

-- the numbers of a cell are at least 0
pub record IsPrintable (cell : Cell) : Type 0 where
  pub eps : pos 0 ≤ℤ cell.eps
  pub lam : pos 0 ≤ℤ cell.lam

-- the line of a cell: permittivity, screening length in nm, both with four decimals, and the answer
abbrev pub cell_row : Cell → List (List ℕ)
cell_row cell = codes "cell" ∷ decimal_text 4 (unsigned_abs cell.eps)
    ∷ decimal_text 4 (unsigned_abs cell.lam) ∷ answer_text cell.answer ∷ []

-- the whole text
abbrev pub domain_text : List Cell → List ℕ
domain_text cells =
    text_of ((codes "sidb-domain" ∷ codes "1" ∷ []) ∷ (map cell_row cells ++ (codes "end" ∷ []) ∷ []))
