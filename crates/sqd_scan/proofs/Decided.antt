-- All bytes begin with a mark, or have a fault of one.
use Rattle.std.proofs.Common.{◌≡◌, ◌∙◌, sym, ap, refl, subst, ℕ, ◌+◌, List, [], ◌∷◌, ◌++◌, Option, None, Some, append_assoc, ◌⊎◌, inl, inr, length}
use Rattle.std.proofs.lemmas.List.{append-nil}
use Rattle.sqd_scan.specs.Fronts.{IsCut, HasMark, IsFaultOf}
use Rattle.sqd_scan.specs.Scanning.{step, kind_done}
use Rattle.sqd_marks.specs.declared.kind.Kind.{Kind}
use Rattle.sqd_scan.specs.declared.fault.SqdFault.{SqdFault}
use Rattle.sqd_scan.specs.declared.fault.SqdFault.TheVariants.{BadMark, NotClosed}
use Rattle.sqd_scan.specs.declared.stage.Stage.{Stage}
use Rattle.sqd_scan.specs.declared.stage.Stage.TheVariants.{Begin, Done}
use Rattle.sqd_scan.proofs.Runs.{then, run, run_append}
use Rattle.sqd_scan.proofs.Passing.{sound}
use Rattle.sqd_scan.proofs.Fronts.{cut_of, bad_of}

-- a mark in front, or a fault
abbrev pub Front : ℕ → List ℕ → Type 0
Front at bytes = HasMark bytes ⊎ ((fault : SqdFault) × IsFaultOf at bytes fault)

done_is : (stage : Stage) (kind : Kind) → kind_done stage ≡ Some kind → stage ≡ Done kind
done_is (Done j) kind e =
    let same : j ≡ kind = cc e in
    ap Done same
done_is _ kind e = absurd (cc e)

-- the mark ends with this byte
mark_ends : (p s : List ℕ) (b : ℕ) (next : Stage) (kind : Kind) → run Begin (p ++ b ∷ []) ≡ Some next → kind_done next ≡ Some kind → HasMark (p ++ b ∷ s)
mark_ends p s b next kind e k =
    let of = sound (p ++ b ∷ []) kind (e ∙ ap Some (done_is next kind k)) in
    record { mark = of.mark; valid = of.valid; more = s; is = sym (append_assoc p (b ∷ []) s) ∙ ap (λ t. t ++ s) (sym of.spelled) }

further : (p : List ℕ) (b : ℕ) (stage next : Stage) → run Begin p ≡ Some stage → step stage b ≡ Some next → run Begin (p ++ b ∷ []) ≡ Some next
further p b stage next e k = run_append (Some Begin) p (b ∷ []) ∙ ap (λ o. then o (b ∷ [])) e ∙ ap (λ o. then o []) k

-- behind a byte that is taken, a mark is whole or goes on
taken : (at : ℕ) (p s : List ℕ) (b : ℕ) (next : Stage) (kind : Option Kind) → run Begin (p ++ b ∷ []) ≡ Some next → kind_done next ≡ kind → (kind_done next ≡ None → Front at ((p ++ b ∷ []) ++ s)) → Front at (p ++ b ∷ s)
taken at p s b next (Some kind) e d on = inl (mark_ends p s b next kind e d)
taken at p s b next None e d on = subst (Front at) (append_assoc p (b ∷ []) s) (on d)

front_at : (at : ℕ) (p s : List ℕ) (b : ℕ) (stage : Stage) (o : Option Stage) → run Begin p ≡ Some stage → kind_done stage ≡ None → step stage b ≡ o → ((next : Stage) → run Begin (p ++ b ∷ []) ≡ Some next → kind_done next ≡ None → Front at ((p ++ b ∷ []) ++ s)) → Front at (p ++ b ∷ s)
front_at at p s b stage None e d k on = inr (BadMark (at + length p), (length p, refl, bad_of (p ++ b ∷ s) p s stage b refl e d k))
front_at at p s b stage (Some next) e d k on =
    let run_on = further p b stage next e k in
    taken at p s b next (kind_done next) run_on refl (λ open_still. on next run_on open_still)

front_behind : (at : ℕ) (p s : List ℕ) (stage : Stage) → run Begin p ≡ Some stage → kind_done stage ≡ None → Front at (p ++ s)
front_behind at p [] stage e d = inr (NotClosed at, (refl, subst IsCut (sym (append-nil p)) (cut_of p stage e d)))
front_behind at p (b ∷ s) stage e d = front_at at p s b stage (step stage b) e d refl (λ next f g. front_behind at (p ++ b ∷ []) s next f g)

pub some_front : (at : ℕ) (bytes : List ℕ) → Front at bytes
some_front at bytes = front_behind at [] bytes Begin refl refl
