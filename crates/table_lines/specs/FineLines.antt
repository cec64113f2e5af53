-- lines that are fine, the lines of a whole table text, and the first row at fault of any other
use Rattle.std.specs.Prelude.{◌≡◌, ◌⊎◌, ℕ, ◌+◌, true, false, List, [], ◌∷◌, ◌++◌, map, length, None, Some, IsTrue}
use Rattle.text_rows.specs.Rows.{rows, words}
use Rattle.table_lines.specs.declared.line.TableLine.{TableLine}
use Rattle.table_lines.specs.declared.fault.LineWhy.TheVariants.{Form}
use Rattle.table_lines.specs.declared.fault.TableFault.{TableFault}
use Rattle.table_lines.specs.declared.fault.TableFault.TheVariants.{Line}
use Rattle.table_lines.specs.Lines.{table_line_words, IsShortTableLine}
use Rattle.table_lines.specs.Kinds.{is_table_ended}
use Rattle.table_lines.specs.Order.{may_follow_lines}
use Rattle.table_lines.specs.Ranges.{fault_in}

-- a line that may stand after these, without fault
pub record IsFineTableLine (before : List TableLine) (l : TableLine) : Type 0 where
  pub follows : may_follow_lines before l ≡ true
  pub faultless : fault_in before (length before + 1) l ≡ None
  pub short : IsShortTableLine l

-- each of the lines is fine after those before it
abbrev pub AreFineTableLines : List TableLine → List TableLine → Type 0
AreFineTableLines before [] = Unit {0}
AreFineTableLines before (l ∷ ls) = IsFineTableLine before l
    × AreFineTableLines (before ++ l ∷ []) ls

-- the lines of a whole text: fine, to the line `end`, with nothing behind it
pub record AreTableLinesIn (text : List ℕ) (lines : List TableLine) : Type 0 where
  pub rows_are : rows text ≡ map table_line_words lines ++ words [] ∷ []
  pub fine : AreFineTableLines [] lines
  pub ended : IsTrue (is_table_ended lines)

-- no line that the row could be may stand there
abbrev pub IsMisplacedTableRow : List TableLine → List (List ℕ) → Type 0
IsMisplacedTableRow before row =
    (l : TableLine) → IsShortTableLine l → row ≡ table_line_words l
    → may_follow_lines before l ≡ false

-- the fault of a row with this number after these lines: it is misplaced, or it is a line that
-- may stand there and has the fault
abbrev pub IsWrongTableRow : ℕ → List TableLine → List (List ℕ) → TableFault → Type 0
IsWrongTableRow number before row fault =
    ((fault ≡ Line number Form) × IsMisplacedTableRow before row)
    ⊎ ((l : TableLine) × (row ≡ table_line_words l) × IsShortTableLine l
    × (may_follow_lines before l ≡ true)
    × (fault_in before number l ≡ Some fault))

-- the same where these rows stand behind it; with nothing behind it, it has no line feed
abbrev pub IsTableRowFault : ℕ → List TableLine → List (List ℕ) → List (List (List ℕ)) → TableFault
    → Type 0
IsTableRowFault number before row [] fault =
    (fault ≡ Line number Form) × (is_table_ended before ≡ true → row ≡ words [] → ⊥)
IsTableRowFault number before row (next ∷ rest) fault = IsWrongTableRow number before row fault

-- the fault of the first row that is at fault, where rows are numbered from `first` on
pub record IsRowFault (first : ℕ) (text : List ℕ) (fault : TableFault) : Type 0 where
  pub before : List TableLine
  pub row : List (List ℕ)
  pub rest : List (List (List ℕ))
  pub rows_are : rows text ≡ map table_line_words before ++ row ∷ rest
  pub fine : AreFineTableLines [] before
  pub wrong : IsTableRowFault (first + length before) before row rest fault
