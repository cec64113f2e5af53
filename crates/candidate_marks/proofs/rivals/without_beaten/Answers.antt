use Rattle.std.proofs.Common.{◌≡◌, ◌∙◌, [], ◌∷◌, length, ap, sym, append_assoc, append-nil, arith}
use Rattle.std.specs.Vec.Iter.{into_iter_items}
use Rattle.std.proofs.lemmas.List.{length-map, length-append}
use Rattle.candidate_marks.specs.Candidates.{lists_of_candidates}
use Rattle.candidate_marks.proofs.Keeping.{kept_all}
use Rattle.candidate_marks.proofs.CandidateLemmas.{all_of}
use Rattle.candidate_marks.proofs.Filtering.{nothing_left, gone_on}
use Rattle.candidate_marks.proofs.rivals.without_beaten.Goals as goal

pub loop-candidate-preserved : goal.loop-candidate-preserved
loop-candidate-preserved c =
    let at = c.loop-candidate in
    let old = at.invariant in
    let x = c.in-Some.candidate in
    let steps : into_iter_items at.candidate-iterator ≡ x ∷ into_iter_items c.next.new.self = c.in-Some.ensures.steps.0 in
    let gone = c.in-Some.ensures.steps.1 in
    let short = ap length steps in
    let left = old.left in
    let parts = rw steps at old.parts in
    let more = length-append at.yielded (x ∷ []) in
    let place = old.place in record {
      parts = append_assoc at.yielded (x ∷ []) _ ∙ parts;
      left = omega arith;
      place = omega (arith, more, place);
      gone = gone_on c.args._problem.now c.args._window.now.width c.args.all.items at.yielded _ c.args.beaten.now x at.k at.list.items c.put_unless.new.list.items c.requires.all c.requires.beaten
          parts old.place old.gone c.in_ok-put_unless.ensures.beaten c.in_ok-put_unless.ensures.put;
    }

pub returns-clause-within : goal.returns-clause-within
returns-clause-within c =
    let at = c.loop-candidate in
    let old = at.invariant in
    let none = c.in-None.ensures.steps in
    let empty : into_iter_items at.candidate-iterator ≡ [] = nothing_left _ (sym old.left ∙ none.0) in
    let whole = ap length (sym (append-nil at.yielded) ∙ rw empty at old.parts) in
    let many = length-map c.args.all.items (λ y. y.charges) in
    let place = old.place in
    kept_all c.args._problem.now c.args._window.now.width (lists_of_candidates c.args.all.items) (lists_of_candidates at.list.items) at.k (all_of _ _ c.args.all.items c.requires.all)
    old.gone.kept (omega (arith, whole, many, place))
