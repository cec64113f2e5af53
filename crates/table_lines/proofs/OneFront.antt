-- A text has one list of lines at its front, and no row at fault in them.
use Rattle.std.proofs.Common.{◌≡◌, ◌∙◌, sym, ap, subst, ℕ, ◌≤◌, List, [], ◌∷◌, ◌++◌, map, length, true, false, arith, ◌⊎◌, inl, inr}
use Rattle.std.proofs.lemmas.List.{append-nil}
use Rattle.text_rows.specs.Rows.{rows, text_of}
use Rattle.text_rows.proofs.RowLemmas.{rows_back, one_text}
use Rattle.table_lines.specs.declared.line.TableLine.{TableLine}
use Rattle.table_lines.specs.declared.fault.TableFault.{TableFault}
use Rattle.table_lines.specs.Lines.{table_line_words}
use Rattle.table_lines.specs.Kinds.{is_table_ended}
use Rattle.table_lines.specs.FineLines.{AreFineTableLines, AreTableLinesIn, IsRowFault}
use Rattle.table_lines.proofs.LineLemmas.{fine_rows}
use Rattle.table_lines.proofs.FrontLemmas.{front_rows, after_end, some_row}
use Rattle.table_lines.proofs.Unique.{Goes, compare, later, fine_at}

-- a whole text is its lines
pub whole_text : (text : List ℕ) (ls : List TableLine) → AreTableLinesIn text ls → text ≡ text_of (map table_line_words ls)
whole_text text ls whole = one_text text (text_of (map table_line_words ls)) (whole.rows_are ∙ sym (rows_back (map table_line_words ls) (fine_rows [] ls whole.fine)))

-- and the rows of a text that begins with it are these lines and what is behind
pub rows_behind : (text behind : List ℕ) (ls : List TableLine) → AreTableLinesIn text ls → rows (text ++ behind) ≡ map table_line_words ls ++ rows behind
rows_behind text behind ls whole = front_rows (text ++ behind) behind ls (ap (λ t. t ++ behind) (whole_text text ls whole)) whole.fine

some_rows : (text : List ℕ) → 1 ≤ length (rows text)
some_rows text =
    let some = some_row text in
    omega (arith, ap length some.2)

-- lines that go on behind a line `end` are none
past_end : (ls ms more : List TableLine) → AreFineTableLines [] ls → is_table_ended ms ≡ true → ls ≡ ms ++ more → ls ≡ ms
past_end ls ms [] fine ended is = is ∙ append-nil ms
past_end ls ms (l ∷ more) fine ended is =
    let here = fine_at ms l more (subst (AreFineTableLines []) is fine) in
    let follows = here.follows in
    let not = after_end ms l ended in
    absurd (cc (follows, not))

pub same_front : (a b x y : List ℕ) (ls ms : List TableLine) → AreTableLinesIn a ls → AreTableLinesIn b ms → a ++ x ≡ b ++ y → ls ≡ ms
same_front a b x y ls ms of also e = by (compare [] ls ms (rows x) (rows y) of.fine also.fine (sym (rows_behind a x ls of) ∙ ap rows e ∙ rows_behind b y ms also))
  where
    by : Goes ls ms (rows x) (rows y) ⊎ Goes ms ls (rows y) (rows x) → ls ≡ ms
    by (inl goes) = past_end ls ms goes.more of.fine also.ended goes.is
    by (inr goes) = sym (past_end ms ls goes.more also.fine of.ended goes.is)

-- no row is at fault up to the line `end`
pub no_row : (first : ℕ) (a x : List ℕ) (ls : List TableLine) (f : TableFault) → AreTableLinesIn a ls → (wrong : IsRowFault first (a ++ x) f) → is_table_ended wrong.before ≡ false → ⊥
no_row first a x ls f of wrong open' = by (compare [] ls wrong.before (rows x) (wrong.row ∷ wrong.rest) of.fine wrong.fine (sym (rows_behind a x ls of) ∙ wrong.rows_are))
  where
    ended : ls ≡ wrong.before → ⊥
    ended same =
        let done = subst (λ b. is_table_ended b ≡ true) same of.ended in
        absurd (cc (done, open'))

    ahead : (more : List TableLine) → ls ≡ wrong.before ++ more → wrong.row ∷ wrong.rest ≡ map table_line_words more ++ rows x → ⊥
    ahead [] is e = ended (is ∙ append-nil wrong.before)
    ahead (l ∷ more) is e = later _ ls wrong.before (l ∷ more) wrong.row wrong.rest (rows x) f of.fine is e (some_rows x) (omega arith) wrong.wrong

    by : Goes ls wrong.before (rows x) (wrong.row ∷ wrong.rest) ⊎ Goes wrong.before ls (wrong.row ∷ wrong.rest) (rows x) → ⊥
    by (inl goes) = ahead goes.more goes.is goes.rows_are
    by (inr goes) = ended (sym (past_end wrong.before ls goes.more wrong.fine of.ended goes.is))
