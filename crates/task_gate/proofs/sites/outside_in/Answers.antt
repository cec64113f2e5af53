use Rattle.std.proofs.Common.{arith, subst}
use Rattle.std.specs.Prelude.{All}
use Rattle.std.proofs.lemmas.List.{take_all}
use Rattle.task_gate.specs.GateSite.{ArePlacesBelow}
use Rattle.task_gate.proofs.Places.{first_a, first_b, goes_on, more_places}
use Rattle.task_gate.proofs.sites.outside_in.Goals as goal

pub returns-then-sites-pair : goal.returns-then-sites-pair
returns-then-sites-pair c = first_a c.args.sites c.args.pairs.now c.loop-k.k _ (omega arith) c.if-sites-pair.true c.loop-k.invariant.back

pub returns-then-sites-pair-2 : goal.returns-then-sites-pair-2
returns-then-sites-pair-2 c = first_b c.args.sites c.args.pairs.now c.loop-k.k _ (omega arith) c.if-sites-pair.false c.if-sites-pair-2.true c.loop-k.invariant.back

pub loop-k-preserved : goal.loop-k-preserved
loop-k-preserved c = record {
  all = more_places c.args.sites c.args.pairs.now c.loop-k.k _ (omega arith) c.loop-k.invariant.all c.if-sites-pair.false c.if-sites-pair-2.false;
  back = goes_on c.args.sites c.args.pairs.now c.loop-k.k _ (omega arith) c.if-sites-pair.false c.if-sites-pair-2.false c.loop-k.invariant.back;
}

pub returns : goal.returns
returns c = subst (All (ArePlacesBelow c.args.sites)) (take_all c.loop-k.k c.args.pairs.now (omega arith)) c.loop-k.invariant.all
