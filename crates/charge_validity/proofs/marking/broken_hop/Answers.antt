use Rattle.std.proofs.Common.{subst}
use Rattle.charge_model.specs.Rules.{by_hop, hop_slack}
use Rattle.hop_rule.specs.Verdict.{IsHopVerdict}
use Rattle.charge_validity.proofs.OwnMarkLemmas.{never_possible}
use Rattle.charge_validity.proofs.marking.broken_hop.Goals as goal

pub unreachable-requires : goal.unreachable-requires
unreachable-requires c =
    let p = c.args.problem.now in
    let cs = c.args.charges.now in
    let never = subst (IsHopVerdict p cs c.args.i c.args.j) c.in-Never.is c.in_ok-hop.ensures.verdict in
    let held = c.requires.possible (by_hop c.args.i c.args.j) (c.requires.i, c.requires.j, c.is_hop.ensures.0 c.if-not-is_hop.false) in
    never_possible p (hop_slack p cs c.args.i c.args.j) never held
