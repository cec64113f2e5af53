-- A text has one ending behind its items: it is whole, or has one first fault.
use Rattle.std.proofs.Common.{◌≡◌, ◌∙◌, sym, ap, refl, subst, ℕ, ◌+◌, List, [], ◌∷◌, ◌++◌, Bool, true, false, append_assoc, ◌⊎◌, inl, inr, Option, None, Some, length, length-append, arith}
use Rattle.std.specs.List.{flat_map, AllByRecursion}
use Rattle.std.proofs.lemmas.List.{append-nil}
use Rattle.sqd_marks.specs.Bytes.{is_blank, Each, Stops}
use Rattle.sqd_marks.specs.Marks.{close, doctype, cdata, mark_bytes}
use Rattle.sqd_nesting.specs.Texts.{Item, IsItem, item_bytes, is_text, Nest, IsOutsideRoot, IsQuiet, PassesItem, Nested, IsWhole, mark_len, at_first}
use Rattle.sqd_nesting.specs.Faults.{IsLoud, BeginsMark, IsBehind, IsFaultAt, IsFaultIn, IsFirstFault}
use Rattle.sqd_scan.specs.declared.fault.SqdFault.{SqdFault}
use Rattle.sqd_scan.specs.declared.fault.SqdFault.TheVariants.{BadMark, NotClosed, WrongClose, Doctype, Cdata}
use Rattle.sqd_nesting.proofs.Once.{begin_stops, mark_stops, no_mark, each_quiet, blank_is_text, same_item}
use Rattle.sqd_nesting.proofs.Causes.{Laws, some_end, no_bad, one_turn, one_cause, no_cause}
use Rattle.sqd_marks.proofs.Spans.{span}

-- a byte among those that pass
each_in : (p : ℕ → Bool) (a x : List ℕ) (b : ℕ) → Each p (a ++ b ∷ x) → p b ≡ true
each_in p [] x b h = h.0
each_in p (c ∷ a) x b h = each_in p a x b h.1

-- the bytes before it
each_front : (p : ℕ → Bool) (a x : List ℕ) → Each p (a ++ x) → Each p a
each_front p [] x h = tt
each_front p (c ∷ a) x h = (h.0, each_front p a x h.1)

each_behind : (p : ℕ → Bool) (a x : List ℕ) → Each p (a ++ x) → Each p x
each_behind p [] x h = h
each_behind p (c ∷ a) x h = each_behind p a x h.1

-- a byte of text stands before the bytes with which text stops
record StandsIn (a t : List ℕ) (b : ℕ) : Type 0 where
  more : List ℕ
  is : t ≡ a ++ b ∷ more

on_byte : (c d : ℕ) (a t : List ℕ) (b : ℕ) → c ≡ d → StandsIn a t b → StandsIn (c ∷ a) (d ∷ t) b
on_byte c d a t b e h = record { more = h.more; is = ap (λ k. k ∷ t) (sym e) ∙ ap (λ l. c ∷ l) h.is }

stands_in : (p : ℕ → Bool) (a x t y : List ℕ) (b : ℕ) → Each p a → p b ≡ true → Stops p y → a ++ b ∷ x ≡ t ++ y → StandsIn a t b
stands_in p [] x [] y b h g s e =
    let wrong : p b ≡ false = subst (Stops p) (sym e) s in
    absurd (cc (wrong, g))
stands_in p [] x (d ∷ t) y b h g s e =
    let first : b ≡ d = cc e in
    record { more = t; is = ap (λ k. k ∷ t) (sym first) }
stands_in p (c ∷ a) x [] y b h g s e =
    let wrong : p c ≡ false = subst (Stops p) (sym e) s in
    absurd (cc (wrong, h.0))
stands_in p (c ∷ a) x (d ∷ t) y b h g s e =
    let first : c ≡ d = cc e in
    let rest : a ++ b ∷ x ≡ t ++ y = cc e in
    on_byte c d a t b first (stands_in p a x t y b h.1 g s rest)

-- text that isn't blank outside the root isn't quiet
loud_not_quiet : (at : ℕ) (n : Nest) (between rest t y : List ℕ) (f : SqdFault) → IsLoud at n between f → Each is_text between → between ++ rest ≡ t ++ y → Stops is_text y → IsQuiet n t → ⊥
loud_not_quiet at n between rest t y f h text e s quiet =
    let all : Each is_text (h.blanks ++ h.byte ∷ h.more) = subst (Each is_text) h.is text in
    let cut : h.blanks ++ h.byte ∷ (h.more ++ rest) ≡ t ++ y = sym (append_assoc h.blanks (h.byte ∷ h.more) rest) ∙ ap (λ b. b ++ rest) (sym h.is) ∙ e in
    let stands = stands_in is_text h.blanks (h.more ++ rest) t y h.byte (each_front is_text h.blanks (h.byte ∷ h.more) all) (each_in is_text h.blanks h.more h.byte all) s cut in
    let blank = each_in is_blank h.blanks stands.more h.byte (subst (Each is_blank) stands.is (quiet h.outside)) in
    cc (blank, h.not_blank)

-- how a text ends behind its items: with a fault, or with blanks and nothing open
abbrev IsEnding : ℕ → Nest → List ℕ → Option SqdFault → Type 0
IsEnding at n left None = IsOutsideRoot n × Each is_blank left
IsEnding at n left (Some f) = IsFaultIn at n left f

-- no item that may stand is left at an ending
fault_no_item : Laws → (at here : ℕ) (n next : Nest) (left x : List ℕ) (i : Item) (f : SqdFault) → IsItem i → PassesItem here i n next → left ≡ item_bytes i ++ x → IsFaultIn at n left f → ⊥
fault_no_item law at here n next left x i f h passes e fault = elim fault.found [
  | inl loud ↦ loud_not_quiet at n fault.between fault.rest i.text (mark_bytes i.mark ++ x) f loud fault.text_only (sym fault.is ∙ e ∙ append_assoc i.text (mark_bytes i.mark) x) (mark_stops i.mark x) passes.quiet
  | inr behind ↦
      let same = span is_text fault.between i.text fault.rest (mark_bytes i.mark ++ x) fault.text_only h.text (begin_stops fault.rest behind.begins) (mark_stops i.mark x) (sym fault.is ∙ e ∙ append_assoc i.text (mark_bytes i.mark) x) in
      no_cause law (at + length fault.between) (here + length i.text) n next fault.rest x i.mark f h.mark same.rest passes.turns behind.found
]

blank_no_mark : (i : Item) (left x : List ℕ) → Each is_blank left → left ≡ item_bytes i ++ x → ⊥
blank_no_mark i left x h e =
    let mark : Each is_blank (mark_bytes i.mark ++ x) = each_behind is_blank i.text (mark_bytes i.mark ++ x) (subst (Each is_blank) (e ∙ append_assoc i.text (mark_bytes i.mark) x) h) in
    let text = each_quiet is_blank is_text (mark_bytes i.mark ++ x) blank_is_text mark in
    let same = span is_text (mark_bytes i.mark ++ x) [] [] (mark_bytes i.mark ++ x) text tt tt (mark_stops i.mark x) (append-nil (mark_bytes i.mark ++ x)) in
    no_mark i.mark x same.rest

ending_no_item : Laws → (at here : ℕ) (n next : Nest) (left x : List ℕ) (i : Item) (o : Option SqdFault) → IsItem i → PassesItem here i n next → left ≡ item_bytes i ++ x → IsEnding at n left o → ⊥
ending_no_item law at here n next left x i None h passes e ending = blank_no_mark i left x ending.1 e
ending_no_item law at here n next left x i (Some f) h passes e ending = fault_no_item law at here n next left x i f h passes e ending

-- two first bytes that aren't blank are one
loud_twice : (at : ℕ) (n : Nest) (a b x y : List ℕ) (f g : SqdFault) → IsLoud at n a f → IsLoud at n b g → a ++ x ≡ b ++ y → f ≡ g
loud_twice at n a b x y f g h k e =
    let left : a ++ x ≡ h.blanks ++ h.byte ∷ (h.more ++ x) = ap (λ l. l ++ x) h.is ∙ append_assoc h.blanks (h.byte ∷ h.more) x in
    let right : b ++ y ≡ k.blanks ++ k.byte ∷ (k.more ++ y) = ap (λ l. l ++ y) k.is ∙ append_assoc k.blanks (k.byte ∷ k.more) y in
    let same = span is_blank h.blanks k.blanks _ _ h.blank k.blank h.not_blank k.not_blank (sym left ∙ e ∙ right) in
    h.fault_is ∙ ap (λ l. BadMark (at + length l)) same.front ∙ sym k.fault_is

one_fault_in : Laws → (at : ℕ) (n : Nest) (left : List ℕ) (f g : SqdFault) → IsFaultIn at n left f → IsFaultIn at n left g → f ≡ g
one_fault_in law at n left f g h k = by h.found k.found
  where
    both : h.between ++ h.rest ≡ k.between ++ k.rest
    both = sym h.is ∙ k.is

    by : IsLoud at n h.between f ⊎ IsBehind at n h.between h.rest f → IsLoud at n k.between g ⊎ IsBehind at n k.between k.rest g → f ≡ g
    by (inl a) (inl b) = loud_twice at n h.between k.between h.rest k.rest f g a b both
    by (inl a) (inr b) = absurd (loud_not_quiet at n h.between h.rest k.between k.rest f a h.text_only both (begin_stops k.rest b.begins) b.quiet)
    by (inr a) (inl b) = absurd (loud_not_quiet at n k.between k.rest h.between h.rest g b k.text_only (sym both) (begin_stops h.rest a.begins) a.quiet)
    by (inr a) (inr b) =
        let same = span is_text h.between k.between h.rest k.rest h.text_only k.text_only (begin_stops h.rest a.begins) (begin_stops k.rest b.begins) both in
        let there = subst (λ r. IsFaultAt (at + length k.between) n r f) same.rest (subst (λ t. IsFaultAt (at + length t) n h.rest f) same.front a.found) in
        one_cause law (at + length k.between) n k.rest f g there b.found

-- where only blanks are left and nothing is open there is no fault
end_no_fault : (at : ℕ) (n : Nest) (f : SqdFault) → IsOutsideRoot n → IsFaultAt at n [] f → ⊥
end_no_fault at n (Doctype k) outside h = no_mark doctype h.1.0 h.1.1
end_no_fault at n (Cdata k) outside h = no_mark cdata h.1.0 h.1.1
end_no_fault at n (WrongClose k) outside h = no_mark (close h.1.name h.1.after) h.1.begins.0 h.1.begins.1
end_no_fault at n (NotClosed k) outside (inl h) = h.1.some refl
end_no_fault at n (NotClosed k) outside (inr h) = some_end h.inside.others h.inside.innermost (sym outside ∙ h.inside.opened)
end_no_fault at n (BadMark k) outside (inl h) = cc h.1.is
end_no_fault at n (BadMark k) outside (inr h) = no_bad h.0 h.2.bad
end_no_fault at n _ outside h = absurd h

no_rest : (rest : List ℕ) → BeginsMark rest → Each is_blank rest → rest ≡ []
no_rest [] h g = refl
no_rest (b ∷ rest) h g =
    let wrong : is_blank 60 ≡ true = ap is_blank (sym h) ∙ g.0 in
    absurd (cc wrong)

blank_no_fault : (at : ℕ) (n : Nest) (left : List ℕ) (f : SqdFault) → IsOutsideRoot n → Each is_blank left → IsFaultIn at n left f → ⊥
blank_no_fault at n left f outside blank fault =
    let all : Each is_blank (fault.between ++ fault.rest) = subst (Each is_blank) fault.is blank in
    elim fault.found [
      | inl loud ↦
          let text : Each is_blank (loud.blanks ++ loud.byte ∷ loud.more) = subst (Each is_blank) loud.is (each_front is_blank fault.between fault.rest all) in
          let passes = each_in is_blank loud.blanks loud.more loud.byte text in
          cc (passes, loud.not_blank)
      | inr behind ↦
          let none = no_rest fault.rest behind.begins (each_behind is_blank fault.between fault.rest all) in
          end_no_fault (at + length fault.between) n f outside (subst (λ r. IsFaultAt (at + length fault.between) n r f) none behind.found)
    ]

one_ending : Laws → (at : ℕ) (n : Nest) (left : List ℕ) (o p : Option SqdFault) → IsEnding at n left o → IsEnding at n left p → o ≡ p
one_ending law at n left None None h k = refl
one_ending law at n left None (Some g) h k = absurd (blank_no_fault at n left g h.0 h.1 k)
one_ending law at n left (Some f) None h k = absurd (blank_no_fault at n left f k.0 k.1 h)
one_ending law at n left (Some f) (Some g) h k = ap Some (one_fault_in law at n left f g h k)

-- what follows an item, as far as the item says
record Follows (at : ℕ) (old next : Nest) (i : Item) (items : List Item) (nest : Nest) (left : List ℕ) (o : Option SqdFault) : Type 0 where
  passes : PassesItem at i old next
  nested : Nested (at + length (item_bytes i)) next items nest
  ending : IsEnding (at + length (item_bytes i ++ flat_map item_bytes items)) nest left o

-- the ending, counted from behind the item
ending_behind : (at : ℕ) (i : Item) (items : List Item) (nest : Nest) (left : List ℕ) (o : Option SqdFault) → IsEnding (at + length (item_bytes i ++ flat_map item_bytes items)) nest left o → IsEnding (at + length (item_bytes i) + length (flat_map item_bytes items)) nest left o
ending_behind at i items nest left o h =
    let long : length (item_bytes i ++ flat_map item_bytes items) ≡ length (item_bytes i) + length (flat_map item_bytes items) = length-append (item_bytes i) (flat_map item_bytes items) in
    let here : at + length (item_bytes i ++ flat_map item_bytes items) ≡ at + length (item_bytes i) + length (flat_map item_bytes items) = omega (arith, long) in
    subst (λ k. IsEnding k nest left o) here h

-- a text has one ending behind its items
pub endings : Laws → (at : ℕ) (n : Nest) (xs ys : List Item) (left right : List ℕ) (nx ny : Nest) (o p : Option SqdFault) → AllByRecursion IsItem xs → AllByRecursion IsItem ys → Nested at n xs nx → Nested at n ys ny → flat_map item_bytes xs ++ left ≡ flat_map item_bytes ys ++ right → IsEnding (at + length (flat_map item_bytes xs)) nx left o → IsEnding (at + length (flat_map item_bytes ys)) ny right p → o ≡ p
endings law at n [] [] left right nx ny o p hs gs h k e u v =
    let first = subst (λ l. IsEnding (at + 0) n l o) e (subst (λ m. IsEnding (at + 0) m left o) (sym h) u) in
    let second = subst (λ m. IsEnding (at + 0) m right p) (sym k) v in
    one_ending law (at + 0) n right o p first second
endings law at n [] (j ∷ ys) left right nx ny o p hs gs h k e u v =
    let first = subst (λ m. IsEnding (at + 0) m left o) (sym h) u in
    absurd (ending_no_item law (at + 0) at n k.0 left (flat_map item_bytes ys ++ right) j o gs.0 k.1 (e ∙ append_assoc (item_bytes j) (flat_map item_bytes ys) right) first)
endings law at n (i ∷ xs) [] left right nx ny o p hs gs h k e u v =
    let second = subst (λ m. IsEnding (at + 0) m right p) (sym k) v in
    absurd (ending_no_item law (at + 0) at n h.0 right (flat_map item_bytes xs ++ left) i p hs.0 h.1 (sym e ∙ append_assoc (item_bytes i) (flat_map item_bytes xs) left) second)
endings law at n (i ∷ xs) (j ∷ ys) left right nx ny o p hs gs h k e u v =
    let first = same_item law.one_mark i j (flat_map item_bytes xs ++ left) (flat_map item_bytes ys ++ right) hs.0 gs.0 (sym (append_assoc (item_bytes i) (flat_map item_bytes xs) left) ∙ e ∙ append_assoc (item_bytes j) (flat_map item_bytes ys) right) in
    let other : Follows at n k.0 j ys ny right p = record { passes = k.1; nested = k.2; ending = v } in
    let there : Follows at n k.0 i ys ny right p = subst (λ l. Follows at n k.0 l ys ny right p) (sym first.front) other in
    let turned = one_turn (at + length i.text) i.mark n k.0 h.0 there.passes.turns h.1.turns in
    let nested = subst (λ m. Nested (at + length (item_bytes i)) m ys ny) turned there.nested in
    endings law (at + length (item_bytes i)) h.0 xs ys left right nx ny o p hs.1 gs.1 h.2 nested first.rest (ending_behind at i xs nx left o u) (ending_behind at i ys ny right p there.ending)

-- a text has one first fault at most
pub one_first_fault : Laws → (text : List ℕ) (f g : SqdFault) → IsFirstFault text f → IsFirstFault text g → f ≡ g
one_first_fault law text f g h k =
    let same : Some f ≡ Some g = endings law (mark_len text) at_first h.items k.items h.left k.left h.nest k.nest (Some f) (Some g) h.begins.valid k.begins.valid h.begins.nested k.begins.nested (sym h.begins.is ∙ k.begins.is) h.found k.found in
    cc same

-- a whole text has none
pub whole_no_fault : Laws → (text : List ℕ) (items : List Item) (f : SqdFault) → IsWhole text items → IsFirstFault text f → ⊥
whole_no_fault law text items f h k =
    let same : None ≡ Some f = endings law (mark_len text) at_first items k.items h.rest k.left h.nest k.nest None (Some f) h.begins.valid k.begins.valid h.begins.nested k.begins.nested (sym h.begins.is ∙ k.begins.is) (h.closed, h.blank) k.found in
    cc same
