-- The definitions refuse wrong lines and wrong rows.
use Rattle.std.proofs.Common.{ℕ, pos, List, [], ◌∷◌, ◌++◌, codes, arith}
use Rattle.std.specs.Fmt.{digits}
use Rattle.table_lines.specs.declared.line.TableLine.{TableLine}
use Rattle.table_lines.specs.declared.line.TableLine.TheVariants.{FirstVersion, Sites, End}
use Rattle.table_lines.specs.declared.fault.LineWhy.TheVariants.{Range}
use Rattle.table_lines.specs.declared.fault.TableFault.TheVariants.{Line}
use Rattle.table_lines.specs.FineLines.{IsFineTableLine, AreTableLinesIn, IsRowFault}
use Rattle.table_lines.proofs.Unique.{one_row_fault}
use Rattle.table_lines.proofs.StandardFacts.{head, pair_lines, pair_text, many_text, sites_are_too_many}

-- a line out of its place, one with a fault, and one with a number of eighteen digits
no_end_first : IsFineTableLine [] End → ⊥
no_end_first h = cc (h.follows)

no_fault_here : IsFineTableLine (FirstVersion ∷ []) (Sites (pos 65)) → ⊥
no_fault_here h = cc (h.faultless)

no_long_number : (before : List TableLine) → IsFineTableLine before (Sites (pos 100000000000000000)) → ⊥
no_long_number before h = omega (arith, h.short)

-- lines of another text, and lines without an end
no_other_rows : AreTableLinesIn (pair_text ++ codes "end") pair_lines → ⊥
unfolding digits
no_other_rows h = cc (h.rows_are)

no_open_end : (text : List ℕ) → AreTableLinesIn text (head []) → ⊥
no_open_end text h = cc (h.ended)

-- a row other than the first that is at fault
no_later_row : IsRowFault 1 many_text (Line 3 Range) → ⊥
no_later_row h = cc (one_row_fault _ _ _ _ sites_are_too_many h)
