use Rattle.std.proofs.Common.{[], ◌∷◌, ◌++◌, arith, sym}
use Rattle.certificate_walk.proofs.Opening.{has_token, stopped_here, fed_one}
use Rattle.certificate_walk.proofs.walking.give_refused.Goals as goal

pub token-requires-clause-room : goal.token-requires-clause-room
token-requires-clause-room g c =
    let room = c.requires.fits in
    let some = has_token c.args.guide.now (c.args.track.now.prefix ++ c.args.charge ∷ []) room.tokens room.of_kind in
    let fits = room.fits in (room.taken, room.known, omega (arith, fits, some))

pub returns-in-Ok-clause-fed : goal.returns-in-Ok-clause-fed
returns-in-Ok-clause-fed g c =
    let q = c.args.track.now.prefix ++ c.args.charge ∷ [] in
    fed_one c.args.guide.now q c.refused_token-token.result c.refused_token-token.ensures.only _ _ _ 0 c.refused_token-token.ensures.closes c.in-Ok.ensures.ok c.in-Ok.ensures.refused

pub returns-in-Ok-clause-nodes : goal.returns-in-Ok-clause-nodes
returns-in-Ok-clause-nodes g c =
    let G = c.args.guide.now in
    let q = c.args.track.now.prefix in
    sym (c.nodes_count_their_children.ensures.closed G.problem G.threshold (q ++ c.args.charge ∷ [])
    (c.refused_charges_close.ensures.no_node G.problem G.threshold q c.args.charge c.requires.room c.requires.refused))

pub returns-in-Err-clause-fed : goal.returns-in-Err-clause-fed
returns-in-Err-clause-fed g c =
    let q = c.args.track.now.prefix ++ c.args.charge ∷ [] in
    stopped_here c.args.guide.now q c.refused_token-token.result c.refused_token-token.ensures.only _ _ _ c.in-Err.stop c.in-Err.ensures.err c.in-Err.ensures.refused
