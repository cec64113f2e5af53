use Rattle.std.proofs.Common.{◌∙◌, refl, sym}
use Rattle.sqd_scan.proofs.Fronts.{run_more, bad_at, whole_at, cut_at}
use Rattle.sqd_scan.proofs.mark_scan.scan.Goals as goal

pub returns-in_default-clause-fault : goal.returns-in_default-clause-fault
returns-in_default-clause-fault c =
    (c.loop-i.i, refl, bad_at c.args.bytes.now c.loop-i.i c.loop-i.stage c.loop-i-test.true c.loop-i.invariant.so_far c.loop-i.invariant.open_still (sym c.step.ensures ∙ c.in_default.is))

pub returns-in-Some-kind_done-clause-whole : goal.returns-in-Some-kind_done-clause-whole
returns-in-Some-kind_done-clause-whole c =
    let more = run_more c.args.bytes.now c.loop-i.i c.loop-i.stage c.in-Some.next c.loop-i-test.true c.loop-i.invariant.so_far (sym c.step.ensures ∙ c.in-Some.is) in
    whole_at c.args.bytes.now c.loop-i.i c.in-Some.next c.in-Some-kind_done.kind more (sym c.kind_done.ensures ∙ c.in-Some-kind_done.is)

pub loop-i-preserved : goal.loop-i-preserved
loop-i-preserved c = record {
  so_far = run_more c.args.bytes.now c.loop-i.i c.loop-i.stage c.in-Some.next c.loop-i-test.true c.loop-i.invariant.so_far (sym c.step.ensures ∙ c.in-Some.is);
  open_still = sym c.kind_done.ensures ∙ c.in_default-kind_done.is;
}

pub returns-clause-fault : goal.returns-clause-fault
returns-clause-fault c = (refl, cut_at c.args.bytes.now c.loop-i.i c.loop-i.stage c.loop-i-test.false c.loop-i.invariant.so_far c.loop-i.invariant.open_still)
