-- each definition refuses a wrong value
use Rattle.std.proofs.Common.{◌≡◌, ap, refl, ℕ, List, [], ◌∷◌, false}
use Rattle.std.specs.Prelude.{codes}
use Rattle.std.proofs.lemmas.Bool.{eqb-false}
use Rattle.sqd_marks.specs.Marks.{start, comment, doctype}
use Rattle.sqd_nesting.specs.Texts.{Item, IsItem, Opened, HasBegun, HasPassedElement, HasEnded, Turns, PassesItem, IsWhole, at_first}
use Rattle.sqd_nesting.specs.Faults.{IsFirstFault}
use Rattle.sqd_scan.specs.declared.fault.SqdFault.TheVariants.{BadMark, NotClosed, WrongClose, Doctype}
use Rattle.sqd_nesting.proofs.Causes.{Laws}
use Rattle.sqd_nesting.proofs.Endings.{one_first_fault, whole_no_fault}
use Rattle.sqd_nesting.proofs.StandardFacts.{tag, item, nest, opened, wrong_close, not_closed, second_root, half_mark, with_doctype}

-- items
less_than_in_text : IsItem (item (codes "<") (comment [])) → ⊥
less_than_in_text h = cc h.text.0

nameless_mark : IsItem (item [] (start (tag []))) → ⊥
nameless_mark h = h.mark.name

-- nesting
second_start : Turns 4 (start (tag (codes "b"))) (nest []) (nest (opened 4 (codes "b") ∷ [])) → ⊥
second_start h =
    let fresh = h.0 refl in
    cc fresh

first_opened : (a b : Opened) → ◌≡◌ {A = List Opened} (a ∷ []) (b ∷ []) → a ≡ b
first_opened a b e = cc e

same_place : (a b : ℕ) → opened a (codes "b") ∷ [] ≡ opened b (codes "b") ∷ [] → a ≡ b
same_place a b e = ap (λ o. o.at) (first_opened (opened a (codes "b")) (opened b (codes "b")) e)

begun_elsewhere : HasBegun 4 (codes "b") (nest []) (nest (opened 3 (codes "b") ∷ [])) → ⊥
begun_elsewhere h = eqb-false 3 4 refl (same_place 3 4 h.opened)

begun_unrooted : HasBegun 4 (codes "b") at_first (record { opened = opened 4 (codes "b") ∷ []; rooted = false }) → ⊥
begun_unrooted h = cc h.rooted

passed_open : HasPassedElement at_first (nest (opened 0 (codes "a") ∷ [])) → ⊥
passed_open h = cc h.opened

ended_nothing : HasEnded (codes "a") (nest []) (nest []) → ⊥
ended_nothing h = cc h.opened

no_doctype : Turns 0 doctype at_first at_first → ⊥
no_doctype h = h

loud_outside : PassesItem 0 (item (codes "x") (comment [])) at_first at_first → ⊥
loud_outside h =
    let blank = (h.quiet refl).0 in
    cc blank

-- a text with a fault isn't whole, and has no other
not_whole : Laws → (items : List Item) → IsWhole (codes "<a></b>") items → ⊥
not_whole law items h = whole_no_fault law (codes "<a></b>") items (WrongClose 3) h wrong_close

two_roots : Laws → (items : List Item) → IsWhole (codes "<a/> <b") items → ⊥
two_roots law items h = whole_no_fault law (codes "<a/> <b") items (BadMark 5) h second_root

half_order_mark : Laws → (items : List Item) → IsWhole (239 ∷ 187 ∷ codes "<a/>") items → ⊥
half_order_mark law items h = whole_no_fault law (239 ∷ 187 ∷ codes "<a/>") items (BadMark 0) h half_mark

told_at_the_start : Laws → IsFirstFault (codes "<a></b>") (WrongClose 0) → ⊥
told_at_the_start law h =
    let same : WrongClose 3 ≡ WrongClose 0 = one_first_fault law (codes "<a></b>") (WrongClose 3) (WrongClose 0) wrong_close h in
    cc same

told_at_the_end : Laws → IsFirstFault (codes "<a>x") (NotClosed 4) → ⊥
told_at_the_end law h =
    let same : NotClosed 0 ≡ NotClosed 4 = one_first_fault law (codes "<a>x") (NotClosed 0) (NotClosed 4) not_closed h in
    cc same

told_as_cut : Laws → IsFirstFault (codes "<a/> <b") (NotClosed 5) → ⊥
told_as_cut law h =
    let same : BadMark 5 ≡ NotClosed 5 = one_first_fault law (codes "<a/> <b") (BadMark 5) (NotClosed 5) second_root h in
    cc same

told_as_bad : Laws → IsFirstFault (codes "\n<!DOCTYPE a>") (BadMark 1) → ⊥
told_as_bad law h =
    let same : Doctype 1 ≡ BadMark 1 = one_first_fault law (codes "\n<!DOCTYPE a>") (Doctype 1) (BadMark 1) with_doctype h in
    cc same
