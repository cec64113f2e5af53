use Rattle.std.proofs.Common.{refl, sym, ◌∙◌, arith}
use Rattle.std.proofs.lemmas.Bool.{false≢true}
use Rattle.level_candidates.proofs.Searched.{kept_none, kept_full, kept_one, no_candidate, candidate_where}
use Rattle.level_candidates.proofs.searching.keep_leaf.Goals as goal
use Rattle.level_candidates.proofs.searching.keep_leaf.Goals.{then-is_empty-via-then-is_empty, then-is_empty-via-else-is_empty+then-len-gt-MAX_ENTRIES}

pub returns-then-not-may_be_candidate : goal.returns-then-not-may_be_candidate
returns-then-not-may_be_candidate c = kept_none c.args.problem.now c.args.levels c.args.track.now.prefix c.args.found.now c.requires.full
    (λ h. c.may_be_candidate.ensures c.if-not-may_be_candidate.true h.level h.inside h.possible)

pub returns-then-is_empty : goal.returns-then-is_empty
returns-then-is_empty c =
    let p = c.args.problem.now in
    let s = c.args.levels in
    let q = c.args.track.now.prefix in
    let f = c.args.found.now in
    let e = c.in_ok-ends.ends in
    elim c.then-is_empty.branch [
      | then-is_empty-via-then-is_empty w ↦ kept_none p s q f c.requires.full (no_candidate p s q e c.in_ok-ends.ensures (c.is_empty.ensures.0 w.if-is_empty.true))
      | then-is_empty-via-else-is_empty+then-len-gt-MAX_ENTRIES w ↦ kept_full p s q f (omega (arith, w.if-len-gt-MAX_ENTRIES.true, w.len.ensures)) c.requires.opens
          (candidate_where p s q e c.requires.full c.in_ok-ends.ensures (λ h. false≢true (sym w.if-is_empty.false ∙ c.is_empty.ensures.1 h)))
    ]

pub returns : goal.returns
returns c =
    let p = c.args.problem.now in
    let s = c.args.levels in
    let q = c.args.track.now.prefix in
    let f = c.args.found.now in
    let e = c.in_ok-ends.ends in
    kept_one p s q f (record { candidates = c.push.new.self; left = f.left }) c.in_ok-candidate.candidate (omega (arith, c.if-len-gt-MAX_ENTRIES.false, c.len.ensures)) c.requires.opens
    (candidate_where p s q e c.requires.full c.in_ok-ends.ensures (λ h. false≢true (sym c.if-is_empty.false ∙ c.is_empty.ensures.1 h)))
    refl c.in_ok-push.ensures.items c.in_ok-candidate.ensures.measured (c.in_ok-candidate.ensures.charges ∙ c.charges.ensures)
