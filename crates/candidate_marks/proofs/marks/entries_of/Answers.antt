use Rattle.std.proofs.Common.{[], ◌∷◌, arith, sym, subst}
use Rattle.std.proofs.lemmas.List.{map-append}
use Rattle.std.proofs.lemmas.List.Elements.{All-push}
use Rattle.window_model.specs.Windows.{IsMarkWithin}
use Rattle.ground_entries.specs.declared.ground_list.Entry.{Entry}
use Rattle.ground_entries.specs.Seen.{seen}
use Rattle.candidate_marks.specs.Candidates.{lists_of_candidates}
use Rattle.candidate_marks.proofs.CandidateLemmas.{entries_push}
use Rattle.candidate_marks.proofs.marks.entries_of.Goals as goal

pub loop-candidate-preserved : goal.loop-candidate-preserved
loop-candidate-preserved c =
    let p = c.args.problem.now in
    let xs = c.args.list.now in
    let x = c.candidate-item.result in
    let old = c.loop-candidate.entries.items in
    let entry : Entry = record { charges = c.copy-charges.result; mark = c.in_ok-mark.mark } in
    rw (c.in_ok-push.ensures.items, map-append seen old (entry ∷ [])) (record {
      charges = entries_push _ (seen entry) xs c.loop-candidate.candidate-index x c.loop-candidate.invariant.charges (omega arith) c.candidate-item.is c.copy-charges.ensures;
      marks = All-push (λ e. IsMarkWithin p c.args.window.now.width (lists_of_candidates xs) e.charges e.mark) _ (seen entry) c.loop-candidate.invariant.marks
          (subst (λ z. IsMarkWithin p c.args.window.now.width (lists_of_candidates xs) z c.in_ok-mark.mark) (sym c.copy-charges.ensures) c.in_ok-mark.ensures);
    })
