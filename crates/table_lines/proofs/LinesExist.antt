-- A text is the lines of a table text, or has a first row at fault.
use Rattle.std.proofs.Common.{◌≡◌, ◌∙◌, sym, ap, refl, subst, ℕ, ◌+◌, List, [], ◌∷◌, ◌++◌, map, length, Bool, true, false, Option, None, Some, append_assoc, arith, ◌⊎◌, inl, inr}
use Rattle.std.proofs.lemmas.List.{map-append}
use Rattle.text_rows.specs.Rows.{rows, words}
use Rattle.table_lines.specs.declared.line.TableLine.{TableLine}
use Rattle.table_lines.specs.declared.fault.LineWhy.TheVariants.{Form}
use Rattle.table_lines.specs.declared.fault.TableFault.{TableFault}
use Rattle.table_lines.specs.declared.fault.TableFault.TheVariants.{Line}
use Rattle.table_lines.specs.Lines.{table_line_words, IsShortTableLine, IsLine}
use Rattle.table_lines.specs.Kinds.{is_table_ended}
use Rattle.table_lines.specs.Order.{may_follow_lines}
use Rattle.table_lines.specs.Ranges.{fault_in}
use Rattle.table_lines.specs.FineLines.{AreFineTableLines, AreTableLinesIn, IsTableRowFault, IsRowFault}
use Rattle.table_lines.proofs.LineLemmas.{same_line}
use Rattle.table_lines.proofs.LineReadings.{AreWordsRead, line_or_none, row_is}
use Rattle.table_lines.proofs.Sound.{fine_more}

-- the text is that of some lines, or has a row at fault
abbrev pub HasLines : List ℕ → Type 0
HasLines text = ((ls : List TableLine) × AreTableLinesIn text ls) ⊎ ((fault : TableFault) × IsRowFault 1 text fault)

-- a fault of the row behind these lines
row_fault : (text : List ℕ) (ls : List TableLine) (row : List (List ℕ)) (rest : List (List (List ℕ))) → AreFineTableLines [] ls → rows text ≡ map table_line_words ls ++ row ∷ rest → (fault : TableFault) → IsTableRowFault (1 + length ls) ls row rest fault → HasLines text
row_fault text ls row rest fine are fault wrong = inr (fault, record { before = ls; row = row; rest = rest; rows_are = are; fine = fine; wrong = wrong })

last_row : (text : List ℕ) (ls : List TableLine) (row : List (List ℕ)) → AreFineTableLines [] ls → rows text ≡ map table_line_words ls ++ row ∷ [] → HasLines text
last_row text ls row fine are = by (is_table_ended ls) refl (row_is row (words []))
  where
    by : (ended : Bool) → is_table_ended ls ≡ ended → (row ≡ words []) ⊎ (row ≡ words [] → ⊥) → HasLines text
    by true ended (inl empty) = inl (ls, record { rows_are = are ∙ ap (λ r. map table_line_words ls ++ r ∷ []) empty; fine = fine; ended = ended })
    by true ended (inr other) = row_fault text ls row [] fine are (Line (1 + length ls) Form) (refl, λ _ e. other e)
    by false open_ other = row_fault text ls row [] fine are (Line (1 + length ls) Form) (refl, λ ended e. let both : ◌≡◌ {A = Bool} false true = sym open_ ∙ ended in absurd (cc))

along_rows : AreWordsRead → (text : List ℕ) (ls : List TableLine) (row : List (List ℕ)) (rest : List (List (List ℕ))) → AreFineTableLines [] ls → rows text ≡ map table_line_words ls ++ row ∷ rest → HasLines text
along_rows read text ls row [] fine are = last_row text ls row fine are
along_rows read text ls row (next ∷ rest) fine are = by_line (line_or_none read row).0 (line_or_none read row).1 (λ l. along_rows read text (ls ++ l ∷ []) next rest)
  where
    further : (l : TableLine) → row ≡ table_line_words l → rows text ≡ map table_line_words (ls ++ l ∷ []) ++ next ∷ rest
    further l is =
        are ∙ ap (λ r. map table_line_words ls ++ r ∷ next ∷ rest) is ∙ sym (append_assoc (map table_line_words ls) (table_line_words l ∷ []) (next ∷ rest))
        ∙ ap (λ xs. xs ++ next ∷ rest) (sym (map-append table_line_words ls (l ∷ [])))

    same_follows : (l m : TableLine) → IsShortTableLine l → row ≡ table_line_words l → may_follow_lines ls l ≡ false → IsShortTableLine m → row ≡ table_line_words m → may_follow_lines ls m ≡ false
    same_follows l m short is not also are_words = subst (λ x. may_follow_lines ls x ≡ false) (same_line l m short also (sym is ∙ are_words)) not

    turned : length ls + 1 ≡ 1 + length ls
    turned = omega arith

    -- how it goes on behind one more line
    Further : Type 0
    Further = (l : TableLine) → AreFineTableLines [] (ls ++ l ∷ []) → rows text ≡ map table_line_words (ls ++ l ∷ []) ++ next ∷ rest → HasLines text

    by_fault : (l : TableLine) → row ≡ table_line_words l → IsShortTableLine l → may_follow_lines ls l ≡ true → (found : Option TableFault) → fault_in ls (1 + length ls) l ≡ found → Further → HasLines text
    by_fault l is short follows (Some fault) there on = row_fault text ls row (next ∷ rest) fine are fault (inr (l, is, short, follows, there))
    by_fault l is short follows None none on = on l (fine_more ls l fine (record { follows = follows; faultless = ap (λ n. fault_in ls n l) turned ∙ none; short = short })) (further l is)

    by_order : (l : TableLine) → row ≡ table_line_words l → IsShortTableLine l → (may : Bool) → may_follow_lines ls l ≡ may → Further → HasLines text
    by_order l is short false not on = row_fault text ls row (next ∷ rest) fine are (Line (1 + length ls) Form) (inl (refl, λ m also are_words. same_follows l m short is not also are_words))
    by_order l is short true follows on = by_fault l is short follows (fault_in ls (1 + length ls) l) refl on

    by_line : (line : Option TableLine) → IsLine row line → Further → HasLines text
    by_line None none on = row_fault text ls row (next ∷ rest) fine are (Line (1 + length ls) Form) (inl (refl, λ m also are_words. absurd (none m also are_words)))
    by_line (Some l) is on = by_order l is.0 is.1 (may_follow_lines ls l) refl on

-- a text has a row
some_row : (all : List (List (List ℕ))) → (all ≡ [] → ⊥) → (row : List (List ℕ)) × (rest : List (List (List ℕ))) × (all ≡ row ∷ rest)
some_row [] not = absurd (not refl)
some_row (row ∷ rest) not = (row, rest, refl)

pub has_lines : AreWordsRead → (text : List ℕ) → (rows text ≡ [] → ⊥) → HasLines text
has_lines read text not =
    let first = some_row (rows text) not in
    along_rows read text [] first.0 first.1 tt first.2
