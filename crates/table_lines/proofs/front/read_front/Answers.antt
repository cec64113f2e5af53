use Rattle.std.proofs.Common.{◌∙◌, sym, inl, inr}
use Rattle.std.proofs.lemmas.Result.{err_from_is_err_and}
use Rattle.table_lines.proofs.Sound.{fine_more}
use Rattle.table_lines.proofs.FrontLemmas.{front_more, front_lines, front_rest, no_feed, wrong_row}
use Rattle.table_lines.proofs.front.read_front.Goals as goal

pub returns-in_default-clause-fault : goal.returns-in_default-clause-fault
returns-in_default-clause-fault c =
    inr (no_feed c.args.text.now c.lines.rest.now c.lines.seen.lines.items c.args.first_line _ c.lines.invariant.text c.lines.invariant.fine c.in_default.ensures.whole (c.len.ensures ∙ c.lines.seen.lines.ok.0) (sym c.is_ended.ensures ∙ c.lines-test.true))

pub returns-in_err-found-clause-fault : goal.returns-in_err-found-clause-fault
returns-in_err-found-clause-fault c =
    let p = err_from_is_err_and c.from_residual-in_err-found.result c.from_residual-in_err-found.ensures.1 in
    rw (p.1, p.2) (elim c.in_err-found.ensures.fault [
      | inl memory ↦ inl memory
      | inr wrong ↦ inr (wrong_row c.args.text.now c.lines.rest.now c.in-Some.line.now c.in-Some.behind.now c.lines.seen.lines.items c.args.first_line _ _ c.lines.invariant.text c.lines.invariant.fine c.in-Some.ensures.parts (c.len.ensures ∙ c.lines.seen.lines.ok.0) (sym c.is_ended.ensures ∙ c.lines-test.true) wrong)
    ])

pub lines-preserved : goal.lines-preserved
lines-preserved c =
    let more = c.in_ok-push_line.ensures.lines in
    record {
      text = rw more (front_more c.args.text.now c.lines.rest.now c.in-Some.line.now c.in-Some.behind.now c.lines.seen.lines.items c.in_ok-found.found c.lines.invariant.text c.in-Some.ensures.bytes c.in_ok-found.ensures.words);
      fine = rw more (fine_more c.lines.seen.lines.items c.in_ok-found.found c.lines.invariant.fine c.in_ok-found.ensures.fine);
      counted = c.in_ok-push_line.ensures.counted;
    }

pub returns-clause-lines : goal.returns-clause-lines
returns-clause-lines c =
    front_lines c.args.text.now c.lines.rest.now c.lines.seen.lines.items c.lines.invariant.text c.lines.invariant.fine (sym c.is_ended.ensures ∙ c.lines-test.false)

pub returns-clause-rest : goal.returns-clause-rest
returns-clause-rest c =
    front_rest c.args.text.now c.lines.rest.now c.lines.seen.lines.items c.lines.invariant.text c.lines.invariant.fine
