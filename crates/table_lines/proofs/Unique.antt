-- A text has one list of lines, or one fault.
use Rattle.std.proofs.Common.{◌≡◌, ◌∙◌, sym, ap, refl, subst, ℕ, ◌+◌, ◌≤◌, List, [], ◌∷◌, ◌++◌, map, length, true, Some, append_assoc, length-append, arith, ◌⊎◌, inl, inr}
use Rattle.std.proofs.lemmas.List.{append-nil}
use Rattle.text_rows.specs.Rows.{words}
use Rattle.table_lines.specs.declared.line.TableLine.{TableLine}
use Rattle.table_lines.specs.declared.fault.TableFault.{TableFault}
use Rattle.table_lines.specs.Lines.{table_line_words}
use Rattle.table_lines.specs.Kinds.{is_table_ended}
use Rattle.table_lines.specs.Ranges.{fault_in}
use Rattle.table_lines.specs.FineLines.{AreFineTableLines, IsFineTableLine, AreTableLinesIn, IsWrongTableRow, IsTableRowFault, IsRowFault}
use Rattle.table_lines.proofs.LineLemmas.{same_line}
use Rattle.table_lines.proofs.Sound.{faultless, fault_none}

-- what is fine at a place in fine lines
fine_at_onto : (front before : List TableLine) (l : TableLine) (more : List TableLine) → AreFineTableLines front (before ++ l ∷ more) → IsFineTableLine (front ++ before) l
fine_at_onto front [] l more fine = subst (λ b. IsFineTableLine b l) (sym (append-nil front)) fine.0
fine_at_onto front (x ∷ before) l more fine =
    subst (λ b. IsFineTableLine b l) (append_assoc front (x ∷ []) before) (fine_at_onto (front ++ x ∷ []) before l more fine.1)

pub fine_at : (before : List TableLine) (l : TableLine) (more : List TableLine) → AreFineTableLines [] (before ++ l ∷ more) → IsFineTableLine before l
fine_at before l more fine = fine_at_onto [] before l more fine

-- the first lines are the second, and more
pub record Goes (ls ms : List TableLine) (xs ys : List (List (List ℕ))) : Type 0 where
  pub more : List TableLine
  pub is : ls ≡ ms ++ more
  pub rows_are : ys ≡ map table_line_words more ++ xs

-- of two readings of the same rows one goes on from the other
pub compare : (front ls ms : List TableLine) (xs ys : List (List (List ℕ))) → AreFineTableLines front ls → AreFineTableLines front ms → map table_line_words ls ++ xs ≡ map table_line_words ms ++ ys → Goes ls ms xs ys ⊎ Goes ms ls ys xs
compare front ls [] xs ys fine also e = inl (record { more = ls; is = refl; rows_are = sym e })
compare front [] (m ∷ ms) xs ys fine also e = inr (record { more = m ∷ ms; is = refl; rows_are = e })
compare front (l ∷ ls) (m ∷ ms) xs ys fine also e =
    let first : table_line_words l ≡ table_line_words m = cc e in
    let behind : map table_line_words ls ++ xs ≡ map table_line_words ms ++ ys = cc e in
    let same = same_line l m fine.0.short also.0.short first in
    longer l m ls ms xs ys same (compare (front ++ l ∷ []) ls ms xs ys fine.1 (subst (λ x. AreFineTableLines (front ++ x ∷ []) ms) (sym same) also.1) behind)
  where
    longer : (l m : TableLine) (ls ms : List TableLine) (xs ys : List (List (List ℕ))) → l ≡ m → Goes ls ms xs ys ⊎ Goes ms ls ys xs → Goes (l ∷ ls) (m ∷ ms) xs ys ⊎ Goes (m ∷ ms) (l ∷ ls) ys xs
    longer l m ls ms xs ys same (inl g) = inl (record { more = g.more; is = ap (λ x. x ∷ ls) same ∙ ap (λ t. m ∷ t) g.is; rows_are = g.rows_are })
    longer l m ls ms xs ys same (inr g) = inr (record { more = g.more; is = ap (λ x. x ∷ ms) (sym same) ∙ ap (λ t. l ∷ t) g.is; rows_are = g.rows_are })

-- a fine line is no wrong row
no_wrong : (number : ℕ) (before : List TableLine) (l : TableLine) (row : List (List ℕ)) (fault : TableFault) → IsFineTableLine before l → row ≡ table_line_words l → IsWrongTableRow number before row fault → ⊥
no_wrong number before l row fault fine is (inl misplaced) =
    let stands = fine.follows in
    let no = misplaced.1 l fine.short is in
    cc (stands, no)
no_wrong number before l row fault fine is (inr other) =
    let same = same_line other.0 l other.2 fine.short (sym other.1 ∙ is) in
    let some = subst (λ x. fault_in before number x ≡ Some fault) same other.4 in
    let none = fault_none before number l (faultless before _ l fine.faultless) in
    cc (some, none)

-- one place has one fault
one_wrong : (number : ℕ) (before : List TableLine) (row : List (List ℕ)) (f g : TableFault) → IsWrongTableRow number before row f → IsWrongTableRow number before row g → f ≡ g
one_wrong number before row f g (inl a) (inl b) = a.0 ∙ sym b.0
one_wrong number before row f g (inl a) (inr b) =
    let no = a.1 b.0 b.2 b.1 in
    let stands = b.3 in
    absurd (cc (no, stands))
one_wrong number before row f g (inr a) (inl b) =
    let no = b.1 a.0 a.2 a.1 in
    let stands = a.3 in
    absurd (cc (no, stands))
one_wrong number before row f g (inr a) (inr b) =
    let same = same_line a.0 b.0 a.2 b.2 (sym a.1 ∙ b.1) in
    let first : fault_in before number b.0 ≡ Some f = subst (λ x. fault_in before number x ≡ Some f) same a.4 in
    let second = b.4 in
    cc (first, second)

one_at : (number : ℕ) (before : List TableLine) (row : List (List ℕ)) (rest : List (List (List ℕ))) (f g : TableFault) → IsTableRowFault number before row rest f → IsTableRowFault number before row rest g → f ≡ g
one_at number before row [] f g a b = a.0 ∙ sym b.0
one_at number before row (next ∷ rest) f g a b = one_wrong number before row f g a b

-- where a fine line stands, and more behind it, there is no fault
not_at : (number : ℕ) (before : List TableLine) (l : TableLine) (row : List (List ℕ)) (rest : List (List (List ℕ))) (fault : TableFault) → IsFineTableLine before l → row ≡ table_line_words l → 1 ≤ length rest → IsTableRowFault number before row rest fault → ⊥
not_at number before l row [] fault fine is some wrong = absurd (omega (arith, some))
not_at number before l row (next ∷ rest) fault fine is some wrong = no_wrong number before l row fault fine is wrong

-- a fault behind lines that go on is none
pub later : (number : ℕ) (ls before more : List TableLine) (row : List (List ℕ)) (rest xs : List (List (List ℕ))) (fault : TableFault) → AreFineTableLines [] ls → ls ≡ before ++ more → row ∷ rest ≡ map table_line_words more ++ xs → 1 ≤ length xs → 1 ≤ length more → IsTableRowFault number before row rest fault → ⊥
later number ls before [] row rest xs fault fine is e some much wrong = absurd (omega (arith, much))
later number ls before (l ∷ more) row rest xs fault fine is e some much wrong =
    let first : row ≡ table_line_words l = cc e in
    let behind : rest ≡ map table_line_words more ++ xs = cc e in
    let here = fine_at before l more (subst (AreFineTableLines []) is fine) in
    not_at number before l row rest fault here first (omega (arith, ap length behind, length-append (map table_line_words more) xs, some)) wrong

-- two faults of rows are one
same_fault : (first : ℕ) (text : List ℕ) (f g : TableFault) (a : IsRowFault first text f) (b : IsRowFault first text g) → Goes a.before b.before (a.row ∷ a.rest) (b.row ∷ b.rest) → f ≡ g
same_fault first text f g a b goes = by goes.more goes.is goes.rows_are
  where
    by : (more : List TableLine) → a.before ≡ b.before ++ more → b.row ∷ b.rest ≡ map table_line_words more ++ (a.row ∷ a.rest) → f ≡ g
    by [] is e =
        let before : b.before ≡ a.before = sym (is ∙ append-nil b.before) in
        let row : b.row ≡ a.row = cc e in
        let rest : b.rest ≡ a.rest = cc e in
        one_at (first + length a.before) a.before a.row a.rest f g a.wrong
        (subst (λ x. IsTableRowFault (first + length a.before) a.before a.row x g) rest
        (subst (λ x. IsTableRowFault (first + length a.before) a.before x b.rest g) row
        (subst (λ x. IsTableRowFault (first + length x) x b.row b.rest g) before b.wrong)))
    by (l ∷ more) is e = absurd (later _ a.before b.before (l ∷ more) b.row b.rest (a.row ∷ a.rest) g a.fine is e (omega arith) (omega arith) b.wrong)

pub one_row_fault : (first : ℕ) (text : List ℕ) (f g : TableFault) → IsRowFault first text f → IsRowFault first text g → f ≡ g
one_row_fault first text f g a b = by (compare [] a.before b.before (a.row ∷ a.rest) (b.row ∷ b.rest) a.fine b.fine (sym a.rows_are ∙ b.rows_are))
  where
    by : Goes a.before b.before (a.row ∷ a.rest) (b.row ∷ b.rest) ⊎ Goes b.before a.before (b.row ∷ b.rest) (a.row ∷ a.rest) → f ≡ g
    by (inl goes) = same_fault first text f g a b goes
    by (inr goes) = sym (same_fault first text g f b a goes)

-- whole lines leave no fault of a row
pub no_row_fault : (first : ℕ) (text : List ℕ) (ls : List TableLine) (f : TableFault) → AreTableLinesIn text ls → IsRowFault first text f → ⊥
no_row_fault first text ls f whole a = by (compare [] ls a.before (words [] ∷ []) (a.row ∷ a.rest) whole.fine a.fine (sym whole.rows_are ∙ a.rows_are))
  where
    last : (row : List (List ℕ)) (rest : List (List (List ℕ))) → row ≡ words [] → rest ≡ [] → ls ≡ a.before → IsTableRowFault (first + length a.before) a.before row rest f → ⊥
    last row [] empty none same wrong = wrong.1 (subst (λ b. is_table_ended b ≡ true) same whole.ended) empty
    last row (next ∷ rest) empty none same wrong = absurd (cc none)

    ahead : (more : List TableLine) → ls ≡ a.before ++ more → a.row ∷ a.rest ≡ map table_line_words more ++ (words [] ∷ []) → ⊥
    ahead [] is e =
        let row : a.row ≡ words [] = cc e in
        let rest : a.rest ≡ [] = cc e in
        last a.row a.rest row rest (is ∙ append-nil a.before) a.wrong
    ahead (l ∷ more) is e = later _ ls a.before (l ∷ more) a.row a.rest (words [] ∷ []) f whole.fine is e (omega arith) (omega arith) a.wrong

    past : (more : List TableLine) → a.before ≡ ls ++ more → words [] ∷ [] ≡ map table_line_words more ++ (a.row ∷ a.rest) → ⊥
    past [] is e =
        let row : a.row ≡ words [] = cc e in
        let rest : a.rest ≡ [] = cc e in
        last a.row a.rest row rest (sym (is ∙ append-nil ls)) a.wrong
    past (l ∷ more) is e = absurd (omega (arith, ap length e, length-append (map table_line_words more) (a.row ∷ a.rest)))

    by : Goes ls a.before (words [] ∷ []) (a.row ∷ a.rest) ⊎ Goes a.before ls (a.row ∷ a.rest) (words [] ∷ []) → ⊥
    by (inl goes) = ahead goes.more goes.is goes.rows_are
    by (inr goes) = past goes.more goes.is goes.rows_are

-- a text has one list of lines
pub one_reading : (text : List ℕ) (ls ms : List TableLine) → AreTableLinesIn text ls → AreTableLinesIn text ms → ls ≡ ms
one_reading text ls ms a b = by (compare [] ls ms (words [] ∷ []) (words [] ∷ []) a.fine b.fine (sym a.rows_are ∙ b.rows_are))
  where
    alike : (xs ys more : List TableLine) → xs ≡ ys ++ more → ◌≡◌ {A = List (List (List ℕ))} (words [] ∷ []) (map table_line_words more ++ words [] ∷ []) → xs ≡ ys
    alike xs ys [] is e = is ∙ append-nil ys
    alike xs ys (l ∷ more) is e = absurd (omega (arith, ap length e, length-append (map table_line_words more) (words [] ∷ [])))

    by : Goes ls ms (words [] ∷ []) (words [] ∷ []) ⊎ Goes ms ls (words [] ∷ []) (words [] ∷ []) → ls ≡ ms
    by (inl goes) = alike ls ms goes.more goes.is goes.rows_are
    by (inr goes) = sym (alike ms ls goes.more goes.is goes.rows_are)
