-- The lines at the front of a text.
use Rattle.std.proofs.Common.{◌≡◌, ◌∙◌, sym, ap, refl, subst, ℕ, ◌+◌, ◌-◌, List, [], ◌∷◌, ◌++◌, map, length, take, drop, Bool, true, false, cond, append_assoc, length-append, length-drop, ◌<◌, Option, None, Some, arith, inl}
use Rattle.std.specs.List.{slice_split, join_with_byte, onto_first}
use Rattle.std.proofs.lemmas.List.{map-append}
use Rattle.std.proofs.Math.Seq.{take-append_seam, drop-append_seam}
use Rattle.text_rows.specs.Rows.{rows, words, lines, text_of}
use Rattle.text_rows.proofs.RowLemmas.{rows_front, rows_back, one_text, line_joined}
use Rattle.table_lines.specs.declared.line.TableLine.{TableLine}
use Rattle.table_lines.specs.declared.fault.LineWhy.TheVariants.{Form}
use Rattle.table_lines.specs.declared.fault.TableFault.{TableFault}
use Rattle.table_lines.specs.declared.fault.TableFault.TheVariants.{Line}
use Rattle.table_lines.specs.Lines.{table_line_words}
use Rattle.table_lines.specs.Kinds.{is_table_ended, is_last_end, last_of}
use Rattle.table_lines.specs.Order.{may_follow_lines, may_follow_last}
use Rattle.table_lines.specs.declared.line.TableLine.TheVariants.{End}
use Rattle.table_lines.specs.FineLines.{AreFineTableLines, AreTableLinesIn, IsRowFault, IsTableRowFault, IsWrongTableRow}
use Rattle.table_lines.proofs.LineLemmas.{fine_rows}

-- the parts of a split are never none
parts_onto : (x : ℕ) (b : Bool) (rest parts : List (List ℕ)) → (first : List ℕ) × (more : List (List ℕ)) × (cond b ([] ∷ rest) (onto_first x parts) ≡ first ∷ more)
parts_onto x true rest parts = ([], rest, refl)
parts_onto x false rest [] = (x ∷ [], [], refl)
parts_onto x false rest (p ∷ parts) = (x ∷ p, parts, refl)

parts : (p : ℕ → Bool) (xs : List ℕ) → (first : List ℕ) × (more : List (List ℕ)) × (slice_split p xs ≡ first ∷ more)
parts p [] = ([], [], refl)
parts p (x ∷ xs) = parts_onto x (p x) (slice_split p xs) (slice_split p xs)

pub some_row : (text : List ℕ) → (row : List (List ℕ)) × (rest : List (List (List ℕ))) × (rows text ≡ row ∷ rest)
some_row text =
    let some = parts _ text in
    (words some.0, map words some.1, ap (map words) some.2)

text_of-append : (xs ys : List (List (List ℕ))) → text_of (xs ++ ys) ≡ text_of xs ++ text_of ys
text_of-append [] ys = refl
text_of-append (row ∷ more) ys =
    ap (λ t. join_with_byte 32 row ++ 10 ∷ t) (text_of-append more ys) ∙ sym (append_assoc (join_with_byte 32 row) (10 ∷ text_of more) (text_of ys))

-- the text, as its lines and what is behind them
pub front_more : (text rest line behind : List ℕ) (ls : List TableLine) (l : TableLine) → text ≡ text_of (map table_line_words ls) ++ rest → rest ≡ line ++ 10 ∷ behind → words line ≡ table_line_words l → text ≡ text_of (map table_line_words (ls ++ l ∷ [])) ++ behind
front_more text rest line behind ls l is cut row =
    let joined = line_joined line (table_line_words l) row in
    let whole : text_of (map table_line_words (ls ++ l ∷ [])) ≡ text_of (map table_line_words ls) ++ (join_with_byte 32 (table_line_words l) ++ 10 ∷ []) = ap text_of (map-append table_line_words ls (l ∷ [])) ∙ text_of-append (map table_line_words ls) (table_line_words l ∷ []) in
    let moved : (text_of (map table_line_words ls) ++ (join_with_byte 32 (table_line_words l) ++ 10 ∷ [])) ++ behind ≡ text_of (map table_line_words ls) ++ (join_with_byte 32 (table_line_words l) ++ 10 ∷ behind) =
    append_assoc (text_of (map table_line_words ls)) (join_with_byte 32 (table_line_words l) ++ 10 ∷ []) behind ∙ ap (λ t. text_of (map table_line_words ls) ++ t) (append_assoc (join_with_byte 32 (table_line_words l)) (10 ∷ []) behind) in
    is ∙ ap (λ r. text_of (map table_line_words ls) ++ r) (cut ∙ ap (λ t. t ++ 10 ∷ behind) joined) ∙ sym (ap (λ t. t ++ behind) whole ∙ moved)

pub front_rows : (text rest : List ℕ) (ls : List TableLine) → text ≡ text_of (map table_line_words ls) ++ rest → AreFineTableLines [] ls → rows text ≡ map table_line_words ls ++ rows rest
front_rows text rest ls is fine = ap rows is ∙ rows_front (map table_line_words ls) rest (fine_rows [] ls fine)

pub taken : (text front rest : List ℕ) → text ≡ front ++ rest → (take (length text - length rest) text ≡ front) × (drop (length text - length rest) text ≡ rest)
taken text front rest is =
    let n : length text - length rest ≡ length front = omega (arith, ap length is, length-append front rest) in
    (ap (λ k. take k text) n ∙ ap (take (length front)) is ∙ take-append_seam front rest, ap (λ k. drop k text) n ∙ ap (drop (length front)) is ∙ drop-append_seam front rest)

-- the bytes in front are the lines of a whole text
pub front_lines : (text rest : List ℕ) (ls : List TableLine) → text ≡ text_of (map table_line_words ls) ++ rest → AreFineTableLines [] ls → is_table_ended ls ≡ true → AreTableLinesIn (take (length text - length rest) text) ls
front_lines text rest ls is fine ended =
    let front = (taken text (text_of (map table_line_words ls)) rest is).0 in
    record { rows_are = ap rows front ∙ rows_back (map table_line_words ls) (fine_rows [] ls fine); fine = fine; ended = ended }

pub front_rest : (text rest : List ℕ) (ls : List TableLine) → text ≡ text_of (map table_line_words ls) ++ rest → AreFineTableLines [] ls → rows text ≡ map table_line_words ls ++ rows (drop (length text - length rest) text)
front_rest text rest ls is fine =
    front_rows text rest ls is fine ∙ ap (λ r. map table_line_words ls ++ rows r) (sym (taken text (text_of (map table_line_words ls)) rest is).1)

-- there is no line feed
pub no_feed : (text rest : List ℕ) (ls : List TableLine) (first n : ℕ) → text ≡ text_of (map table_line_words ls) ++ rest → AreFineTableLines [] ls → lines rest ≡ rest ∷ [] → n ≡ length ls → is_table_ended ls ≡ false → (wrong : IsRowFault first text (Line (first + n) Form)) × (is_table_ended wrong.before ≡ false)
no_feed text rest ls first n is fine last count open' =
    let whole = front_rows text rest ls is fine ∙ ap (λ r. map table_line_words ls ++ map words r) last in
    (record { before = ls; row = words rest; rest = []; rows_are = whole; fine = fine; wrong = (ap (λ k. Line (first + k) Form) count, λ done _. absurd (cc (done, open'))) }, open')

-- the row is wrong
pub wrong_row : (text rest line behind : List ℕ) (ls : List TableLine) (first n : ℕ) (fault : TableFault) → text ≡ text_of (map table_line_words ls) ++ rest → AreFineTableLines [] ls → lines rest ≡ line ∷ lines behind → n ≡ length ls → is_table_ended ls ≡ false → IsWrongTableRow (first + n) ls (words line) fault → (wrong : IsRowFault first text fault) × (is_table_ended wrong.before ≡ false)
wrong_row text rest line behind ls first n fault is fine cut count open' wrong =
    let next = some_row behind in
    let whole = front_rows text rest ls is fine ∙ ap (λ r. map table_line_words ls ++ r) (ap (map words) cut ∙ ap (λ r. words line ∷ r) next.2) in
    let here : IsTableRowFault (first + length ls) ls (words line) (next.0 ∷ next.1) fault = subst (λ k. IsWrongTableRow (first + k) ls (words line) fault) count wrong in
    (record { before = ls; row = words line; rest = next.0 ∷ next.1; rows_are = whole; fine = fine; wrong = here }, open')

-- nothing may follow the line `end`
pub after_end : (ls : List TableLine) (l : TableLine) → is_table_ended ls ≡ true → may_follow_lines ls l ≡ false
after_end ls l ended = by (last_of ls) ended
  where
    by : (last : Option TableLine) → is_last_end last ≡ true → may_follow_last ls last l ≡ false
    by None h = absurd (cc h)
    by (Some End) h = refl
    by (Some _) h = absurd (cc h)

-- there are bytes behind the line `end`
pub bytes_behind : (text : List ℕ) (n k : ℕ) (ls : List TableLine) → AreTableLinesIn (take n text) ls → rows text ≡ map table_line_words ls ++ rows (drop n text) → n < length text → k ≡ length ls → IsRowFault 1 text (Line (k + 1) Form)
bytes_behind text n k ls whole is more count =
    let some = some_row (drop n text) in
    let number : ◌≡◌ {A = TableFault} (Line (k + 1) Form) (Line (1 + length ls) Form) = ap (λ m. Line m Form) (omega (arith, count)) in
    record { before = ls; row = some.0; rest = some.1; rows_are = is ∙ ap (λ r. map table_line_words ls ++ r) some.2; fine = whole.fine; wrong = by number some.0 some.1 some.2 }
  where
    by : ◌≡◌ {A = TableFault} (Line (k + 1) Form) (Line (1 + length ls) Form) → (row : List (List ℕ)) (rest : List (List (List ℕ))) → rows (drop n text) ≡ row ∷ rest → IsTableRowFault (1 + length ls) ls row rest (Line (k + 1) Form)
    by number row [] e = (
      number,
      λ _ none.
          let empty : drop n text ≡ [] = one_text (drop n text) [] (e ∙ ap (λ r. r ∷ []) none) in
          omega (arith, more, length-drop n text, ap length empty),
    )
    by number row (next ∷ rest) e = inl (number, λ l short h. after_end ls l whole.ended)
