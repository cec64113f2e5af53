use Rattle.std.proofs.Common.{subst}
use Rattle.std.specs.Prelude.{IfSome}
use Rattle.charge_model.specs.GroundList.{lists_of}
use Rattle.walk_model.specs.Walks.{raised_bound}
use Rattle.shared_check.specs.Parts.{IsGuideOf}
use Rattle.shared_check.proofs.Parting.{whole_part}
use Rattle.shared_check.proofs.sharing.walk_shared.Goals as goal

pub count_shared-requires-after_bounds : goal.count_shared-requires-after_bounds
count_shared-requires-after_bounds g c κs within =
    let p = c.args.problem.now in
    let w = c.args.window.width in
    let o = raised_bound w c.args.bound in
    let l = lists_of c.args.list.now in
    let made = subst (λ x. IfSome x (IsGuideOf p w c.threshold_of-threshold.result l)) c.in-Some.is c.in_ok-new.ensures in
    let guide = subst (λ t. IsGuideOf p w t l c.in-Some.setting) c.threshold_of-threshold.ensures made in
    let written = c.each_problem_has_written_tokens.ensures p w c.args.list.now c.args.bound c.sites-known.ensures.valid c.args.window.is_window.least c.requires.list c.requires.bound in
    whole_part p w o l c.in-Some.setting written.0 guide written.1 (c.nodes_have_few_tokens.ensures p w o l written.0 written.1) c.requires.few (c.nodes_count_their_children.ensures.whole p o)
