use Rattle.std.proofs.Common.{rules, subst}
use Rattle.written_tokens.specs.Guiding.{IsTokenAt}
use Rattle.certificate_walk.proofs.Nodes.{node_here}
use Rattle.shared_check.proofs.Parting.{token_of, parts_below}
use Rattle.shared_check.proofs.head.+heads.Goals as goal

pub share_under-token_at-requires-clause-some : goal.share_under-token_at-requires-clause-some
share_under-token_at-requires-clause-some t c = token_of c.args.setting.now c.args.prefix.now c.requires.part

pub share_under-share_children-requires : goal.share_under-share_children-requires
share_under-share_children-requires t c =
    let G = c.args.setting.now in
    let q = c.args.prefix.now in
    let here = node_here G q (subst (IsTokenAt G q) c.in-Node.is c.in-Ok-token_at.ensures.found) in
    let counted = c.nodes_count_their_children.ensures.beyond G.problem G.threshold q here.1 ((c.nodes_are_tested.ensures G.problem G.threshold q c.requires.part.prefix.short).1 here.0) in
    let parts = parts_below G q c.requires.part here.1 counted c.in-Ok-token_at.token c.in-Ok-token_at.ensures.only c.in-Node.is in
    search rules
