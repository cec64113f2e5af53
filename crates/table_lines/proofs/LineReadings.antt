-- A row of words is a line, or no line.
use Rattle.std.proofs.Common.{◌≡◌, ◌∙◌, sym, refl, ℕ, ℤ, List, [], ◌∷◌, codes, Bool, true, false, Option, None, Some, ◌⊎◌, inl, inr}
use Rattle.std.specs.Bool.{Decides}
use Rattle.std.specs.Fmt.{signed_decimal}
use Rattle.std.specs.Str.{bytes_eq}
use Rattle.std.proofs.lemmas.Slice.Eq.{bytes_eq-Decides}
use Rattle.text_rows.specs.Rows.{IsShort, IsNumber}
use Rattle.table_lines.specs.declared.line.TableLine.{TableLine}
use Rattle.table_lines.specs.declared.line.TableLine.TheVariants.{FirstVersion, SecondVersion, Sites, Fixed, Base, Levels, Charge, Class, Pair, Near, End}
use Rattle.table_lines.specs.Lines.{table_line_words, IsShortTableLine, IsLine}

-- each word is a number, or none
abbrev pub AreWordsRead : Type 0
AreWordsRead = (word : List ℕ) → (number : Option ℤ) × IsNumber word number

-- two words are the same, or not
decided : (b : Bool) (P : Type 0) → Decides b P → P ⊎ (P → ⊥)
decided true P tells = inl (tells.0 refl)
decided false P tells = inr (λ p. let both : ◌≡◌ {A = Bool} false true = tells.1 p in absurd (cc))

same_word : (v w : List ℕ) → (v ≡ w) ⊎ (v ≡ w → ⊥)
same_word v w = decided (bytes_eq v w) (v ≡ w) (bytes_eq-Decides v w)

-- the row is these words, or not
abbrev pub IsRow : List (List ℕ) → List (List ℕ) → Type 0
IsRow row words = (row ≡ words) ⊎ (row ≡ words → ⊥)

pub row_is : (row words : List (List ℕ)) → IsRow row words
row_is [] [] = inl refl
row_is [] (w ∷ ws) = inr (λ e. absurd (cc))
row_is (v ∷ vs) [] = inr (λ e. absurd (cc))
row_is (v ∷ vs) (w ∷ ws) = by (same_word v w) (row_is vs ws)
  where
    by : (v ≡ w) ⊎ (v ≡ w → ⊥) → IsRow vs ws → IsRow (v ∷ vs) (w ∷ ws)
    by (inl a) (inl b) = inl (cc (a, b))
    by (inl a) (inr other) = inr (λ e. other (cc e))
    by (inr other) more = inr (λ e. other (cc e))

-- the row is such a line of one number, of two or of three, or not
abbrev IsOneNumber : List (List ℕ) → List ℕ → Type 0
IsOneNumber row name = ((z : ℤ) × IsShort z × (row ≡ name ∷ signed_decimal z ∷ []))
    ⊎ ((z : ℤ) → IsShort z → row ≡ name ∷ signed_decimal z ∷ [] → ⊥)

one_number : AreWordsRead → (row : List (List ℕ)) (name : List ℕ) → IsOneNumber row name
one_number read [] name = inr (λ z short e. absurd (cc))
one_number read (v ∷ []) name = inr (λ z short e. absurd (cc))
one_number read (v ∷ w ∷ x ∷ more) name = inr (λ z short e. absurd (cc))
one_number read (v ∷ w ∷ []) name = by (same_word v name) (read w).0 (read w).1
  where
    by : (v ≡ name) ⊎ (v ≡ name → ⊥) → (number : Option ℤ) → IsNumber w number → IsOneNumber (v ∷ w ∷ []) name
    by (inl a) (Some z) is = let b = is.0 in inl (z, is.1, cc (a, b))
    by (inl a) None none = inr (λ z short e. none z short (cc e))
    by (inr other) number is = inr (λ z short e. other (cc e))

abbrev IsTwoNumbers : List (List ℕ) → List ℕ → Type 0
IsTwoNumbers row name =
    ((y : ℤ) × (z : ℤ) × IsShort y × IsShort z × (row ≡ name ∷ signed_decimal y ∷ signed_decimal z ∷ []))
    ⊎ ((y z : ℤ) → IsShort y → IsShort z → row ≡ name ∷ signed_decimal y ∷ signed_decimal z ∷ [] → ⊥)

two_numbers : AreWordsRead → (row : List (List ℕ)) (name : List ℕ) → IsTwoNumbers row name
two_numbers read [] name = inr (λ y z h k e. absurd (cc))
two_numbers read (u ∷ more) name = by (same_word u name) more
  where
    rest : u ≡ name → (v w : List ℕ) → (a : Option ℤ) → IsNumber v a → (b : Option ℤ) → IsNumber w b → IsTwoNumbers (u ∷ v ∷ w ∷ []) name
    rest same v w (Some y) is (Some z) also = let a = is.0 in let b = also.0 in inl (y, z, is.1, also.1, cc (same, a, b))
    rest same v w None none b also = inr (λ y z h k e. none y h (cc e))
    rest same v w (Some y) is None none = inr (λ x z h k e. none z k (cc e))

    by : (u ≡ name) ⊎ (u ≡ name → ⊥) → (words : List (List ℕ)) → IsTwoNumbers (u ∷ words) name
    by (inr other) words = inr (λ y z h k e. other (cc e))
    by (inl same) [] = inr (λ y z h k e. absurd (cc))
    by (inl same) (v ∷ []) = inr (λ y z h k e. absurd (cc))
    by (inl same) (v ∷ w ∷ []) = rest same v w (read v).0 (read v).1 (read w).0 (read w).1
    by (inl same) (v ∷ w ∷ x ∷ words) = inr (λ y z h k e. absurd (cc))

abbrev IsThreeNumbers : List (List ℕ) → List ℕ → Type 0
IsThreeNumbers row name =
    ((x : ℤ) × (y : ℤ) × (z : ℤ) × IsShort x × IsShort y × IsShort z × (row ≡ name ∷ signed_decimal x ∷ signed_decimal y ∷ signed_decimal z ∷ []))
    ⊎ ((x y z : ℤ) → IsShort x → IsShort y → IsShort z → row ≡ name ∷ signed_decimal x ∷ signed_decimal y ∷ signed_decimal z ∷ [] → ⊥)

three_numbers : AreWordsRead → (row : List (List ℕ)) (name : List ℕ) → IsThreeNumbers row name
three_numbers read [] name = inr (λ x y z g h k e. absurd (cc))
three_numbers read (t ∷ more) name = by (same_word t name) more
  where
    rest : t ≡ name → (u v w : List ℕ) → (a : Option ℤ) → IsNumber u a → (b : Option ℤ) → IsNumber v b → (c : Option ℤ) → IsNumber w c → IsThreeNumbers (t ∷ u ∷ v ∷ w ∷ []) name
    rest same u v w (Some x) is (Some y) also (Some z) too =
        let a = is.0 in
        let b = also.0 in
        let d = too.0 in
        inl (x, y, z, is.1, also.1, too.1, cc (same, a, b, d))
    rest same u v w None none b also c too = inr (λ x y z g h k e. none x g (cc e))
    rest same u v w (Some x) is None none c too = inr (λ q y z g h k e. none y h (cc e))
    rest same u v w (Some x) is (Some y) also None none = inr (λ q r z g h k e. none z k (cc e))

    by : (t ≡ name) ⊎ (t ≡ name → ⊥) → (words : List (List ℕ)) → IsThreeNumbers (t ∷ words) name
    by (inr other) words = inr (λ x y z g h k e. other (cc e))
    by (inl same) [] = inr (λ x y z g h k e. absurd (cc))
    by (inl same) (u ∷ []) = inr (λ x y z g h k e. absurd (cc))
    by (inl same) (u ∷ v ∷ []) = inr (λ x y z g h k e. absurd (cc))
    by (inl same) (u ∷ v ∷ w ∷ []) = rest same u v w (read u).0 (read u).1 (read v).0 (read v).1 (read w).0 (read w).1
    by (inl same) (u ∷ v ∷ w ∷ s ∷ words) = inr (λ x y z g h k e. absurd (cc))

-- the row is one of the lines
abbrev IsSomeLine : List (List ℕ) → Type 0
IsSomeLine row = (l : TableLine) × ((row ≡ table_line_words l) × IsShortTableLine l)

-- the row is this line or one of the later kinds, if it is a line
or_else : (row : List (List ℕ)) (P : Type 0) → IsSomeLine row ⊎ P → (P → IsSomeLine row ⊎ ((l : TableLine) → IsShortTableLine l → row ≡ table_line_words l → ⊥)) → IsSomeLine row ⊎ ((l : TableLine) → IsShortTableLine l → row ≡ table_line_words l → ⊥)
or_else row P (inl is) more = inl is
or_else row P (inr not) more = more not

plain : (row : List (List ℕ)) (l : TableLine) → IsShortTableLine l → IsSomeLine row ⊎ (row ≡ table_line_words l → ⊥)
plain row l short = by (row_is row (table_line_words l))
  where
    by : IsRow row (table_line_words l) → IsSomeLine row ⊎ (row ≡ table_line_words l → ⊥)
    by (inl is) = inl (l, (is, short))
    by (inr not) = inr not

one : AreWordsRead → (row : List (List ℕ)) (name : List ℕ) (line : ℤ → TableLine) → ((z : ℤ) → table_line_words (line z) ≡ name ∷ signed_decimal z ∷ []) → ((z : ℤ) → IsShort z → IsShortTableLine (line z)) → IsSomeLine row ⊎ ((z : ℤ) → IsShort z → row ≡ table_line_words (line z) → ⊥)
one read row name line words short = by (one_number read row name)
  where
    by : IsOneNumber row name → IsSomeLine row ⊎ ((z : ℤ) → IsShort z → row ≡ table_line_words (line z) → ⊥)
    by (inl is) = inl (line is.0, (is.2 ∙ sym (words is.0), short is.0 is.1))
    by (inr not) = inr (λ z h e. not z h (e ∙ words z))

two : AreWordsRead → (row : List (List ℕ)) (name : List ℕ) (line : ℤ → ℤ → TableLine) → ((y z : ℤ) → table_line_words (line y z) ≡ name ∷ signed_decimal y ∷ signed_decimal z ∷ []) → ((y z : ℤ) → IsShort y → IsShort z → IsShortTableLine (line y z)) → IsSomeLine row ⊎ ((y z : ℤ) → IsShort y → IsShort z → row ≡ table_line_words (line y z) → ⊥)
two read row name line words short = by (two_numbers read row name)
  where
    by : IsTwoNumbers row name → IsSomeLine row ⊎ ((y z : ℤ) → IsShort y → IsShort z → row ≡ table_line_words (line y z) → ⊥)
    by (inl is) = inl (line is.0 is.1, (is.4 ∙ sym (words is.0 is.1), short is.0 is.1 is.2 is.3))
    by (inr not) = inr (λ y z h k e. not y z h k (e ∙ words y z))

three : AreWordsRead → (row : List (List ℕ)) (name : List ℕ) (line : ℤ → ℤ → ℤ → TableLine) → ((x y z : ℤ) → table_line_words (line x y z) ≡ name ∷ signed_decimal x ∷ signed_decimal y ∷ signed_decimal z ∷ []) → ((x y z : ℤ) → IsShort x → IsShort y → IsShort z → IsShortTableLine (line x y z)) → IsSomeLine row ⊎ ((x y z : ℤ) → IsShort x → IsShort y → IsShort z → row ≡ table_line_words (line x y z) → ⊥)
three read row name line words short = by (three_numbers read row name)
  where
    by : IsThreeNumbers row name → IsSomeLine row ⊎ ((x y z : ℤ) → IsShort x → IsShort y → IsShort z → row ≡ table_line_words (line x y z) → ⊥)
    by (inl is) = inl (line is.0 is.1 is.2, (is.6 ∙ sym (words is.0 is.1 is.2), short is.0 is.1 is.2 is.3 is.4 is.5))
    by (inr not) = inr (λ x y z g h k e. not x y z g h k (e ∙ words x y z))

-- the row is none of these lines
record IsNone (row : List (List ℕ)) : Type 0 where
  first : row ≡ table_line_words FirstVersion → ⊥
  second : row ≡ table_line_words SecondVersion → ⊥
  end : row ≡ table_line_words End → ⊥
  sites : (z : ℤ) → IsShort z → row ≡ table_line_words (Sites z) → ⊥
  fixed : (z : ℤ) → IsShort z → row ≡ table_line_words (Fixed z) → ⊥
  base : (z : ℤ) → IsShort z → row ≡ table_line_words (Base z) → ⊥
  charge : (z : ℤ) → IsShort z → row ≡ table_line_words (Charge z) → ⊥
  levels : (y z : ℤ) → IsShort y → IsShort z → row ≡ table_line_words (Levels y z) → ⊥
  class : (y z : ℤ) → IsShort y → IsShort z → row ≡ table_line_words (Class y z) → ⊥
  pair : (x y z : ℤ) → IsShort x → IsShort y → IsShort z → row ≡ table_line_words (Pair x y z) → ⊥
  near : (x y z : ℤ) → IsShort x → IsShort y → IsShort z → row ≡ table_line_words (Near x y z) → ⊥

no_line : (row : List (List ℕ)) → IsNone row → (l : TableLine) → IsShortTableLine l → row ≡ table_line_words l → ⊥
no_line row none FirstVersion short e = none.first e
no_line row none SecondVersion short e = none.second e
no_line row none End short e = none.end e
no_line row none (Sites z) short e = none.sites z short e
no_line row none (Fixed z) short e = none.fixed z short e
no_line row none (Base z) short e = none.base z short e
no_line row none (Charge z) short e = none.charge z short e
no_line row none (Levels y z) short e = none.levels y z short.0 short.1 e
no_line row none (Class y z) short e = none.class y z short.0 short.1 e
no_line row none (Pair x y z) short e = none.pair x y z short.0 short.1 short.2 e
no_line row none (Near x y z) short e = none.near x y z short.0 short.1 short.2 e

some_line : AreWordsRead → (row : List (List ℕ)) → IsSomeLine row ⊎ ((l : TableLine) → IsShortTableLine l → row ≡ table_line_words l → ⊥)
some_line read row =
    or_else row _ (plain row FirstVersion tt) (λ first.
    or_else row _ (plain row SecondVersion tt) (λ second.
    or_else row _ (plain row End tt) (λ end.
    or_else row _ (one read row (codes "sites") Sites (λ z. refl) (λ z h. h)) (λ sites.
    or_else row _ (one read row (codes "fixed") Fixed (λ z. refl) (λ z h. h)) (λ fixed.
    or_else row _ (one read row (codes "base") Base (λ z. refl) (λ z h. h)) (λ base.
    or_else row _ (one read row (codes "charge") Charge (λ z. refl) (λ z h. h)) (λ charge.
    or_else row _ (two read row (codes "mu") Levels (λ y z. refl) (λ y z h k. (h, k))) (λ levels.
    or_else row _ (two read row (codes "class") Class (λ y z. refl) (λ y z h k. (h, k))) (λ class.
    or_else row _ (three read row (codes "pair") Pair (λ x y z. refl) (λ x y z g h k. (g, h, k))) (λ pair.
    or_else row _ (three read row (codes "near") Near (λ x y z. refl) (λ x y z g h k. (g, h, k))) (λ near.
    inr (no_line row (record { first = first; second = second; end = end; sites = sites; fixed = fixed; base = base; charge = charge; levels = levels; class = class; pair = pair; near = near })))))))))))))

pub line_or_none : AreWordsRead → (row : List (List ℕ)) → (line : Option TableLine) × IsLine row line
line_or_none read row = by (some_line read row)
  where
    by : IsSomeLine row ⊎ ((l : TableLine) → IsShortTableLine l → row ≡ table_line_words l → ⊥) → (line : Option TableLine) × IsLine row line
    by (inl is) = (Some is.0, is.1)
    by (inr none) = (None, none)
