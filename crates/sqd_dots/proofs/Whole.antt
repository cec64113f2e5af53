-- the tally of a whole text
use Rattle.std.proofs.Common.{◌≡◌, ◌∙◌, refl, sym, ap, subst, ℕ, ◌+◌, length, List, [], ◌∷◌, ◌++◌, map, reverse, Option, Some, None, true, false}
use Rattle.std.specs.Prelude.{slice_get}
use Rattle.std.proofs.lemmas.List.{reverse-append}
use Rattle.sqd_marks.specs.Marks.{TextMark, start, empty, close, comment, declaration, doctype, cdata}
use Rattle.sqd_nesting.specs.Texts.{Item, item_bytes, Nest, Opened, IsOutsideRoot, Turns, Nested, IsWhole, mark_len, at_first}
use Rattle.sqd_dots.specs.declared.drawing.Dot.{Dot}
use Rattle.sqd_dots.specs.declared.tally.Tally.{Tally}
use Rattle.sqd_elements.specs.Elements.{Element, elements_of, without_nearest}
use Rattle.sqd_dots.specs.Dots.{bad_places}
use Rattle.sqd_dots.specs.Levels.{Closes}
use Rattle.sqd_dots.specs.Drawings.{HasElements, IsDrawing, IsNotSiqad, IsBadSite}
use Rattle.sqd_dots.specs.States.{IsTally}

-- the names of open elements, the nearest first
abbrev pub open_names : List Opened → List (List ℕ)
open_names opened = map (λ o. o.name) (reverse opened)

one_open : (old new : List Opened) (o : Opened) → new ≡ old ++ o ∷ [] → open_names new ≡ o.name ∷ open_names old
one_open old new o h = ap open_names h ∙ ap (λ os. map (λ x. x.name) os) (reverse-append old (o ∷ []))

closes_by : (at : ℕ) (text : List ℕ) (m : TextMark) (items : List Item) (old next : Nest) → Turns at m old next → Closes (open_names next.opened) items → Closes (open_names old.opened) (record { text = text; mark = m } ∷ items)
closes_by at text (start tag) items old next h c = subst (λ names. Closes names items) (one_open old.opened next.opened _ h.1.opened) c
closes_by at text (empty tag) items old next h c = subst (λ os. Closes (open_names os) items) h.1.opened c
closes_by at text (close name after) items old next h c =
    let names : open_names old.opened ≡ name ∷ open_names next.opened = one_open next.opened old.opened h.innermost h.opened ∙ ap (λ n. n ∷ open_names next.opened) h.named in
    let others : without_nearest (open_names old.opened) ≡ open_names next.opened = ap without_nearest names in
    (names ∙ ap (λ ns. name ∷ ns) (sym others), subst (λ ns. Closes ns items) (sym others) c)
closes_by at text (comment inner) items old next h c = subst (λ n. Closes (open_names n.opened) items) h c
closes_by at text (declaration inner) items old next h c = subst (λ n. Closes (open_names n.opened) items) h c
closes_by at text doctype items old next h c = absurd h
closes_by at text cdata items old next h c = absurd h

nested_closes : (at : ℕ) (old : Nest) (items : List Item) (new : Nest) → Nested at old items new → IsOutsideRoot new → Closes (open_names old.opened) items
nested_closes at old [] new h out = ap (λ n. open_names n.opened) h ∙ ap open_names out
nested_closes at old (i ∷ items) new h out = closes_by (at + length i.text) i.text i.mark items old h.0 h.1.turns (nested_closes (at + length (item_bytes i)) h.0 items new h.2 out)

-- the items of a whole text close all that they begin
pub whole_closes : (text : List ℕ) (items : List Item) → IsWhole text items → Closes [] items
whole_closes text items h = nested_closes (mark_len text) at_first items h.nest h.begins.nested h.closed

-- the elements of a text that was read
pub read_elements : (text : List ℕ) (items : List Item) → IsWhole text items → HasElements text (elements_of text items)
read_elements text items h = record { items = items; whole = h; are = refl }

none_bad : (places : List ℕ) → slice_get places 0 ≡ None → places ≡ []
none_bad [] h = refl
none_bad (p ∷ places) h = absurd (cc h)

first_bad : (places : List ℕ) (at : ℕ) → slice_get places 0 ≡ Some at → (later : List ℕ) × (places ≡ at ∷ later)
first_bad [] at h = absurd (cc h)
first_bad (p ∷ places) at h =
    let same : p ≡ at = cc h in
    (places, ap (λ k. k ∷ places) same)

-- what a tally of a whole text says
pub no_siqad : (text : List ℕ) (es : List Element) (t : Tally) → HasElements text es → IsTally t es → t.siqad ≡ false → IsNotSiqad text
no_siqad text es t h g s = record { elements = es; read = h; siqad = sym g.siqad ∙ s }

pub bad_site : (text : List ℕ) (es : List Element) (t : Tally) (at : ℕ) → HasElements text es → IsTally t es → t.siqad ≡ true → t.bad ≡ Some at → IsBadSite text at
bad_site text es t at h g s b =
    let first = first_bad (bad_places es) at (sym g.bad ∙ b) in
    record { elements = es; read = h; siqad = sym g.siqad ∙ s; later = first.0; bad = first.1 }

pub drawing : (text : List ℕ) (es : List Element) (t : Tally) (dots : List Dot) → HasElements text es → IsTally t es → t.siqad ≡ true → t.bad ≡ None → dots ≡ reverse t.dots.items → IsDrawing text dots t.skipped
drawing text es t dots h g s b d = record { elements = es; read = h; siqad = sym g.siqad ∙ s; each_has_a_site = none_bad (bad_places es) (sym g.bad ∙ b); drawn = d ∙ g.dots; counted = g.skipped }

-- an option without a value
pub none_of : {X : Type 0} (o : Option X) → ((x : X) → o ≡ Some x → ⊥) → o ≡ None
none_of None h = refl
none_of (Some x) h = absurd (h x refl)
