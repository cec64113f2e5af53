use Rattle.std.proofs.Common.{subst, arith}
use Rattle.std.specs.Prelude.{MatchOption}
use Rattle.charge_validity.specs.OwnMarks.{AreHopsCertain, IsFirstHopTo}
use Rattle.charge_validity.proofs.OwnMarkLemmas.{first_hop_decides}
use Rattle.charge_validity.proofs.marking.first_hop.Goals as goal

pub returns-in-Some : goal.returns-in-Some
returns-in-Some c =
    let p = c.args.problem.now in
    let first = subst (λ o. MatchOption o (AreHopsCertain p c.args.charges.now c.loop-i.i) (IsFirstHopTo p c.args.charges.now c.loop-i.i)) c.in-Some.is c.in_ok-hop.ensures in
    first_hop_decides p c.args.charges.now c.loop-i.i c.in-Some.hop (omega arith) c.requires.tests c.loop-i.invariant first
