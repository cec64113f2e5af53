-- A text is cut into items in one way.
use Rattle.std.proofs.Common.{◌≡◌, ◌∙◌, sym, ap, refl, subst, ℕ, List, [], ◌∷◌, ◌++◌, Bool, true, append_assoc, inl, inr, eqb, not}
use Rattle.std.specs.List.{flat_map, AllByRecursion}
use Rattle.std.proofs.lemmas.List.{append-nil}
use Rattle.std.proofs.lemmas.Bool.{eqb-true}
use Rattle.sqd_marks.specs.Bytes.{is_blank, Each, Stops}
use Rattle.sqd_marks.specs.Marks.{TextMark, start, empty, close, comment, declaration, doctype, cdata, IsWellFormedMark, mark_bytes}
use Rattle.sqd_nesting.specs.Texts.{Item, IsItem, item_bytes, is_text, IsWhole}
use Rattle.sqd_nesting.specs.Faults.{BeginsMark}
use Rattle.sqd_marks.proofs.ByteFacts.{tells}
use Rattle.sqd_nesting.proofs.Reading.{begins_mark}
use Rattle.sqd_marks.proofs.Spans.{span}

-- what a text begins with is one mark
abbrev pub OneMark : Type 0
OneMark = (m n : TextMark) (x y : List ℕ) → IsWellFormedMark m → IsWellFormedMark n → mark_bytes m ++ x ≡ mark_bytes n ++ y → m ≡ n

pub begin_stops : (bytes : List ℕ) → BeginsMark bytes → Stops is_text bytes
begin_stops [] h = tt
begin_stops (b ∷ bs) h = ap is_text h

pub mark_stops : (m : TextMark) (more : List ℕ) → Stops is_text (mark_bytes m ++ more)
mark_stops m more = begin_stops (mark_bytes m ++ more) (begins_mark m more)

pub no_mark : (m : TextMark) (more : List ℕ) → [] ≡ mark_bytes m ++ more → ⊥
no_mark (start t) more e = cc e
no_mark (empty t) more e = cc e
no_mark (close n w) more e = cc e
no_mark (comment c) more e = cc e
no_mark (declaration c) more e = cc e
no_mark doctype more e = cc e
no_mark cdata more e = cc e

cancel : (a x y : List ℕ) → a ++ x ≡ a ++ y → x ≡ y
cancel [] x y e = e
cancel (c ∷ a) x y e =
    let rest : a ++ x ≡ a ++ y = cc e in
    cancel a x y rest

spread : (i : Item) (rest x : List ℕ) → (item_bytes i ++ rest) ++ x ≡ i.text ++ (mark_bytes i.mark ++ (rest ++ x))
spread i rest x = append_assoc (item_bytes i) rest x ∙ append_assoc i.text (mark_bytes i.mark) (rest ++ x)

abbrev item : List ℕ → TextMark → Item
item text mark = record { text = text; mark = mark }

pub record SameItem (i j : Item) (x y : List ℕ) : Type 0 where
  pub front : i ≡ j
  pub rest : x ≡ y

-- a text begins with one item
pub same_item : OneMark → (i j : Item) (left right : List ℕ) → IsItem i → IsItem j → item_bytes i ++ left ≡ item_bytes j ++ right → SameItem i j left right
same_item law i j left right h g e =
    let at : i.text ++ (mark_bytes i.mark ++ left) ≡ j.text ++ (mark_bytes j.mark ++ right) = sym (append_assoc i.text (mark_bytes i.mark) left) ∙ e ∙ append_assoc j.text (mark_bytes j.mark) right in
    let same = span is_text i.text j.text (mark_bytes i.mark ++ left) (mark_bytes j.mark ++ right) h.text g.text (mark_stops i.mark left) (mark_stops j.mark right) at in
    let mark = law i.mark j.mark left right h.mark g.mark same.rest in
    record {
      front = ap (λ t. item t i.mark) same.front ∙ ap (λ m. item j.text m) mark;
      rest = cancel (mark_bytes j.mark) left right (ap (λ m. mark_bytes m ++ left) (sym mark) ∙ same.rest);
    }

pub record OneReading (xs ys : List Item) (x y : List ℕ) : Type 0 where
  pub items : xs ≡ ys
  pub rest : x ≡ y

-- a text has one reading: the same items and the same rest
pub one_reading : OneMark → (xs ys : List Item) (x y : List ℕ) → AllByRecursion IsItem xs → AllByRecursion IsItem ys → Each is_text x → Each is_text y → flat_map item_bytes xs ++ x ≡ flat_map item_bytes ys ++ y → OneReading xs ys x y
one_reading law [] [] x y hs gs h g e = record { items = refl; rest = e }
one_reading law [] (j ∷ ys) x y hs gs h g e =
    let at : x ++ [] ≡ j.text ++ (mark_bytes j.mark ++ (flat_map item_bytes ys ++ y)) = append-nil x ∙ e ∙ spread j (flat_map item_bytes ys) y in
    let same = span is_text x j.text [] (mark_bytes j.mark ++ (flat_map item_bytes ys ++ y)) h gs.0.text tt (mark_stops j.mark (flat_map item_bytes ys ++ y)) at in
    absurd (no_mark j.mark (flat_map item_bytes ys ++ y) same.rest)
one_reading law (i ∷ xs) [] x y hs gs h g e =
    let at : y ++ [] ≡ i.text ++ (mark_bytes i.mark ++ (flat_map item_bytes xs ++ x)) = append-nil y ∙ sym e ∙ spread i (flat_map item_bytes xs) x in
    let same = span is_text y i.text [] (mark_bytes i.mark ++ (flat_map item_bytes xs ++ x)) g hs.0.text tt (mark_stops i.mark (flat_map item_bytes xs ++ x)) at in
    absurd (no_mark i.mark (flat_map item_bytes xs ++ x) same.rest)
one_reading law (i ∷ xs) (j ∷ ys) x y hs gs h g e =
    let first = same_item law i j (flat_map item_bytes xs ++ x) (flat_map item_bytes ys ++ y) hs.0 gs.0 (sym (append_assoc (item_bytes i) (flat_map item_bytes xs) x) ∙ e ∙ append_assoc (item_bytes j) (flat_map item_bytes ys) y) in
    let more = one_reading law xs ys x y hs.1 gs.1 h g first.rest in
    record { items = ap (λ k. k ∷ xs) first.front ∙ ap (λ ks. j ∷ ks) more.items; rest = more.rest }

pub each_quiet : (p q : ℕ → Bool) (w : List ℕ) → ((b : ℕ) → p b ≡ true → q b ≡ true) → Each p w → Each q w
each_quiet p q [] f h = tt
each_quiet p q (b ∷ w) f h = (f b h.0, each_quiet p q w f h.1)

pub blank_is_text : (b : ℕ) → is_blank b ≡ true → is_text b ≡ true
blank_is_text b h = elim (tells (eqb b 60)) [
  | inl e ↦
      let wrong : is_blank 60 ≡ true = subst (λ n. is_blank n ≡ true) (eqb-true b 60 e) h in
      absurd (cc wrong)
  | inr e ↦ ap not e
]

-- a whole text is one list of items
pub one_whole : OneMark → (text : List ℕ) (xs ys : List Item) → IsWhole text xs → IsWhole text ys → xs ≡ ys
one_whole law text xs ys h g =
    (one_reading law xs ys h.rest g.rest h.begins.valid g.begins.valid (each_quiet is_blank is_text h.rest blank_is_text h.blank) (each_quiet is_blank is_text g.rest blank_is_text g.blank) (sym h.begins.is ∙ g.begins.is)).items
