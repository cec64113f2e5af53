use Rattle.std.proofs.Common.{◌++◌, ◌∷◌, [], inl, sym, subst}
use Rattle.certificate_model.specs.declared.token.Token.TheVariants.{Site}
use Rattle.written_tokens.specs.Guiding.{IsTokenAt}
use Rattle.written_tokens.specs.GuideSeen.{seen}
use Rattle.written_tokens.proofs.ClosedSites.{closes_first, one_token}
use Rattle.written_tokens.proofs.guide.Guide.refused_token.Goals as goal

pub returns-clause-found : goal.returns-clause-found
returns-clause-found c =
    let g = seen c.self.inside in
    let q = c.args.track.now.prefix ++ c.args.charge ∷ [] in
    subst (λ u. IsTokenAt u q (Site c.refused_at.result)) c.self.view_is (inl (closes_first g.problem q c.refused_at.result c.refused_at.ensures))

pub returns-clause-only : goal.returns-clause-only
returns-clause-only c other at =
    let g = seen c.self.inside in
    let q = c.args.track.now.prefix ++ c.args.charge ∷ [] in
    let laws = c.prefixes_have_one_token.ensures in
    one_token g q other (Site c.refused_at.result) (laws.closing g.problem g.window g.threshold g.lists q) (laws.apart g.problem g.window g.threshold g.lists q)
    (λ s t x y. laws.full g.problem g.window g.lists q s t c.self.invariant.in_order x y)
    (subst (λ u. IsTokenAt u q other) (sym c.self.view_is) at) (inl (closes_first g.problem q c.refused_at.result c.refused_at.ensures))
