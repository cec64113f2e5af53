use Rattle.std.proofs.Common.{ap, ◌∙◌, subst, IfOk}
use Rattle.std.specs.List.{AllZip}
use Rattle.shared_check.specs.Parts.{IsCountOf}
use Rattle.shared_check.proofs.Gathering.{gathered}
use Rattle.shared_check.proofs.sharing.count_tasks.Goals as goal

pub returns : goal.returns
returns g c =
    let slice = ap (λ it. it.base.slice.now) c.map.ensures.base ∙ ap (λ it. it.slice.now) c.with_min_len.ensures.base ∙ c.par_iter.ensures in
    let chain = c.in_ok-gathered.ensures.1 in
    subst (λ f. IfOk c.in_ok-gathered.gathered (λ v. AllZip (IsCountOf f.0.now) c.args.tasks.now v.items)) c.map.ensures.f
    (gathered (IsCountOf c.map.result.f.0.now) (λ counts. counts.items) c.in_ok-gathered.gathered
    chain.0 c.args.tasks.now c.in_ok-gathered.ensures.0 (chain.1 ∙ slice) chain.2 c.in_ok-gathered.ensures.2)
