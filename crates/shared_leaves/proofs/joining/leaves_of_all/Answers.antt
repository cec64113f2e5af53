use Rattle.std.proofs.Common.{ap, ◌∙◌, subst}
use Rattle.std.specs.Prelude.{MatchResult}
use Rattle.std.specs.List.{AllZip}
use Rattle.shared_leaves.specs.Finds.{AreFound, IsMissed}
use Rattle.shared_leaves.proofs.Found.{gathered}
use Rattle.shared_leaves.proofs.joining.leaves_of_all.Goals as goal

pub returns-in-Ok : goal.returns-in-Ok
returns-in-Ok g c =
    let slice = ap (λ it. it.base.slice.now) c.map.ensures.base ∙ ap (λ it. it.slice.now) c.with_min_len.ensures.base ∙ c.par_iter.ensures in
    let chain = c.in-Ok.ensures.1 in
    subst (λ f. MatchResult c.in-Ok.found (λ v. AllZip (AreFound f.1.now f.2.now) c.args.shares.now v.items) (IsMissed f.1.now f.2.now f.3.now c.args.shares.now)) c.map.ensures.f
    (gathered c.map.result.f.1.now c.map.result.f.2.now c.map.result.f.3.now (λ all. all.items) c.in-Ok.found
    chain.0 c.args.shares.now c.in-Ok.ensures.0 (chain.1 ∙ slice) chain.2 c.in-Ok.ensures.2)
