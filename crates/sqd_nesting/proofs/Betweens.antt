-- What stands between marks.
use Rattle.std.proofs.Common.{◌≡◌, ◌≢◌, ◌∙◌, sym, ap, subst, ℕ, ◌+◌, ◌<◌, ◌≤◌, List, [], ◌∷◌, ◌++◌, true, false, not, inl, inr, eqb, nat_eq, arith, length, take, drop, get_or, drop-cons, add-one, length-drop, ◌-◌, Some}
use Rattle.std.proofs.lemmas.Bool.{eqb-true}
use Rattle.std.proofs.lemmas.List.{take-append-drop, length-take-le}
use Rattle.sqd_marks.specs.Bytes.{is_blank, Each}
use Rattle.sqd_scan.specs.Fronts.{IsOf, IsFaultOf}
use Rattle.sqd_scan.specs.declared.mark_scan.Whole.{Whole}
use Rattle.sqd_nesting.specs.Texts.{Nest, IsOutsideRoot, IsQuiet, is_text}
use Rattle.sqd_nesting.specs.Faults.{IsStray, BeginsMark, IsFaultAt, IsFaultIn}
use Rattle.sqd_nesting.specs.Views.{IsAhead}
use Rattle.sqd_scan.specs.declared.fault.SqdFault.{SqdFault}
use Rattle.sqd_scan.specs.declared.fault.SqdFault.TheVariants.{BadMark, NotClosed}
use Rattle.sqd_marks.proofs.ByteFacts.{tells}

pub not_less : (b : ℕ) → (b ≡ 60 → ⊥) → is_text b ≡ true
not_less b h = elim (tells (eqb b 60)) [
  | inl e ↦ absurd (h (eqb-true b 60 e))
  | inr e ↦ ap not e
]

-- the text before the next mark isn't blank
pub loud : (at : ℕ) (nest : Nest) (left : List ℕ) (gap k : ℕ) → IsOutsideRoot nest → gap ≤ length left → Each is_text (take gap left) → k < length (take gap left) → Each is_blank (take k (take gap left)) → is_blank (get_or (take gap left) k 0) ≡ false → IsFaultIn at nest left (BadMark (at + k))
loud at nest left gap k outside within text below blank bad =
    let between : List ℕ = take gap left in
    let count : length (take k between) ≡ k = length-take-le k between (omega (arith, below)) in
    let cut : between ≡ take k between ++ get_or between k 0 ∷ drop (k + 1) between = sym (take-append-drop k between) ∙ ap (λ t. take k between ++ t) (drop-cons between k 0 below ∙ ap (λ n. get_or between k 0 ∷ drop n between) (sym (add-one k))) in
    record {
      between = take gap left;
      rest = drop gap left;
      is = sym (take-append-drop gap left);
      text_only = text;
      found = inl (record { outside = outside; blanks = take k between; byte = get_or between k 0; more = drop (k + 1) between; is = cut; blank = blank; not_blank = bad; fault_is = ap (λ n. BadMark (at + n)) (sym count) });
    }

-- the fault stands behind the text
pub behind : (at : ℕ) (nest : Nest) (left : List ℕ) (gap here : ℕ) (fault : SqdFault) → here ≡ at + gap → gap ≤ length left → Each is_text (take gap left) → IsQuiet nest (take gap left) → BeginsMark (drop gap left) → IsFaultAt here nest (drop gap left) fault → IsFaultIn at nest left fault
behind at nest left gap here fault is within text quiet begins bad =
    let count : length (take gap left) ≡ gap = length-take-le gap left within in
    record {
      between = take gap left;
      rest = drop gap left;
      is = sym (take-append-drop gap left);
      text_only = text;
      found = inr (record { quiet = quiet; begins = begins; found = subst (λ n. IsFaultAt n nest (drop gap left) fault) (is ∙ ap (λ n. at + n) (sym count)) bad });
    }

-- what begins with no mark has its fault at its place, where it is some bytes and not stray
pub scanned : (at : ℕ) (n : Nest) (rest : List ℕ) (fault : SqdFault) → rest ≢ [] → (IsStray n rest → ⊥) → IsFaultOf at rest fault → IsFaultAt at n rest fault
scanned at n rest (NotClosed k) some calm h = inl (h.0, record { some = some; cut = h.1; calm = calm })
scanned at n rest (BadMark k) some calm h = inr (h.0, h.1, record { bad = h.2; calm = calm })
scanned at n rest _ some calm h = absurd h

-- what begins no mark isn't empty where it begins with a byte
pub some_left : (rest : List ℕ) → nat_eq (length rest) 0 ≡ false → rest ≢ []
some_left [] h e = cc h
some_left (b ∷ rest) h e = cc e

-- a mark ahead
pub some_ahead : (n : Nest) (left rest : List ℕ) (gap : ℕ) (w : Whole) → rest ≡ drop gap left → gap ≤ length left → w.len ≤ length rest → 0 < w.len → Each is_text (take gap left) → IsQuiet n (take gap left) → IsOf w.kind (take w.len rest) → (IsStray n rest → ⊥) → IsAhead n left (Some (record { gap = gap; whole = w }))
some_ahead n left rest gap w is within len some text quiet of stray =
    let long : length rest ≡ length left - gap = ap length is ∙ length-drop gap left in
    record {
      within = omega (arith, long, len, within);
      some = some;
      text = text;
      quiet = quiet;
      mark = subst (λ r. IsOf w.kind (take w.len r)) is of;
      calm = subst (λ r. IsStray n r → ⊥) is stray;
    }
