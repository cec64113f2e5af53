-- each definition refuses a wrong value
use Rattle.std.proofs.Common.{◌≡◌, ◌∙◌, sym, refl, []}
use Rattle.std.specs.Prelude.{codes}
use Rattle.sqd_marks.specs.Marks.{doctype}
use Rattle.sqd_marks.specs.declared.kind.Kind.TheVariants.{Start, Empty}
use Rattle.sqd_scan.specs.Fronts.{IsOf, IsFront, IsFaultOf}
use Rattle.sqd_scan.specs.declared.fault.SqdFault.TheVariants.{BadMark, NotClosed, Doctype}
use Rattle.sqd_scan.specs.declared.stage.Stage.TheVariants.{Bang, Open}
use Rattle.sqd_scan.proofs.Fronts.{no_front}
use Rattle.sqd_scan.proofs.Unique.{no_fault, one_fault, of_kind}
use Rattle.sqd_scan.proofs.StandardFacts.{start_of, bad_bang, half_doctype}

-- a whole mark isn't cut, and no byte behind it is bad
whole_is_not_cut : IsFaultOf 0 (codes "<!DOCTYPE") (NotClosed 0) → ⊥
whole_is_not_cut h = no_fault 0 (codes "<!DOCTYPE") doctype [] (NotClosed 0) tt refl h

byte_behind_is_not_bad : IsFaultOf 0 (codes "<!DOCTYPE ") (BadMark 9) → ⊥
byte_behind_is_not_bad h = no_fault 0 (codes "<!DOCTYPE ") doctype (codes " ") (BadMark 9) tt refl h

-- bytes that continue no mark are no front
no_front_of_mark : IsFront (codes "<!x") → ⊥
no_front_of_mark h = no_front (codes "<!") Bang 120 refl refl h

blank_behind_less_than : IsFront (codes "< ") → ⊥
blank_behind_less_than h = no_front (codes "<") Open 32 refl refl h

-- another place, another reason, and a reason that is none of these bytes
bad_one_early : IsFaultOf 7 (codes "<!x") (BadMark 8) → ⊥
bad_one_early h =
    let same : BadMark 9 ≡ BadMark 8 = one_fault 7 (codes "<!x") (BadMark 9) (BadMark 8) bad_bang h in
    cc same

cut_is_not_bad : IsFaultOf 7 (codes "<!DOC") (BadMark 11) → ⊥
cut_is_not_bad h =
    let same : NotClosed 7 ≡ BadMark 11 = one_fault 7 (codes "<!DOC") (NotClosed 7) (BadMark 11) half_doctype h in
    cc same

doctype_is_no_reason : IsFaultOf 7 (codes "<!DOC") (Doctype 7) → ⊥
doctype_is_no_reason h = h

-- another form
start_is_not_empty : IsOf Empty (codes "<a>") → ⊥
start_is_not_empty h =
    let kinds : Empty ≡ Start = sym h.form ∙ of_kind h.mark start_of.mark h.valid start_of.valid (h.spelled ∙ sym start_of.spelled) ∙ start_of.form in
    cc kinds
