use Rattle.std.proofs.Common.{◌≡◌, take, map}
use Rattle.std.specs.Prelude.{All}
use Rattle.charge_model.specs.GroundList.{lists_of}
use Rattle.window_model.specs.Windows.{IsMarkWithin}
use Rattle.ground_entries.specs.Seen.{seen}
use Rattle.candidate_marks.specs.Candidates.{lists_of_candidates}
use Rattle.candidate_marks.proofs.marks.entries_of.Given as goal

abbrev pub invariant-loop-candidate : goal.invariant-loop-candidate
invariant-loop-candidate l = record {
  charges : lists_of (map seen l.entries.items) ≡ take l.candidate-index (lists_of_candidates l.list);
  marks : All (λ e. IsMarkWithin l.problem l.window.width (lists_of_candidates l.list) e.charges e.mark) (map seen l.entries.items);
}
